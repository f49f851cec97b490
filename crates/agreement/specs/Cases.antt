-- Document 01's table of marked cases, one proposition about the definitions: `MarkedCases`, proved as `marked_cases` in
-- proofs/Marked.antt. The cases about one command are `Rattle.commands.specs.Cases`; the two about whole packets stand here.
use Rattle.std.specs.Prelude.{◌≡◌, ℕ, List, [], ◌∷◌}
use Rattle.links.specs.Links.{in_use}
use Rattle.state.specs.State.{Model, default_model}
use Rattle.commands.specs.Cases as commands
use Rattle.calls.specs.Packets.{Profile, reply, discarded}
use Rattle.calls.specs.Calls.{on_packet, open_connection, reply_to}

-- the bench sample: link 1 is open, and two packets of one octet came for it
abbrev pub data_for1 : ℕ → List ℕ
data_for1 octet = 0x02 ∷ 0x01 ∷ 0x00 ∷ 0x01 ∷ 0x00 ∷ octet ∷ []

abbrev pub after_two : Profile → List ℕ → ℕ → Model
after_two g address random =
    let opened = (reply_to g (open_connection 1 24 0 42) default_model).state in
    let first = (reply_to g (on_packet address random (data_for1 0xAA)) opened).state in
    (reply_to g (on_packet address random (data_for1 0xBB)) first).state

pub record MarkedCases : Type 0 where
  -- the cases about one command
  pub commands : commands.MarkedCases
  -- length octet 3 with two octets: no event, and nothing changes
  pub short_command : (g : Profile) (address : List ℕ) (random low high first second : ℕ) (m : Model)
      → reply_to g (on_packet address random (0x01 ∷ low ∷ high ∷ 3 ∷ first ∷ second ∷ [])) m ≡ reply [] m
  -- third packet above: dropped. With acl_len 27 and acl_count 2 two buffers are in use, and the third packet is counted as
  -- dropped and changes nothing else
  pub third_packet : (g : Profile) (address : List ℕ) (random : ℕ) → g.controller.acl_len ≡ 27 → g.controller.acl_count ≡ 2
      → (in_use (after_two g address random).links ≡ 2)
      × (reply_to g (on_packet address random (data_for1 0xCC)) (after_two g address random)
      ≡ reply [] (discarded (after_two g address random)))
