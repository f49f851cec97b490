-- What looking for a handle finds: its connection, and the reason of a Disconnect that waits for the peer.
use Rattle.std.specs.Prelude.{ℕ, List, [], ◌∷◌, Option, Some, None, cond, eqb}
use Rattle.links.specs.declared.Connection.{Connection}
use Rattle.links.specs.Links.{has_handle}

-- connection: the first with the handle
unfoldable pub connection_of : ℕ → List Connection → Option Connection
connection_of h [] = None
connection_of h (c ∷ cs) = cond (has_handle h c) (Some c) (connection_of h cs)

-- its reason; 0 says that there is none
abbrev pub reason_of : Option Connection → Option ℕ
reason_of None = None
reason_of (Some c) = cond (eqb c.terminating 0) None (Some c.terminating)

-- terminating
abbrev pub terminating_of : ℕ → List Connection → Option ℕ
terminating_of h cs = reason_of (connection_of h cs)
