-- The packets that a controller writes, as lists of octets: an indicator (Core Vol 4 Part A section 2) and the packet
-- (Part E sections 5.4 and 7.7). Numbers of two octets are little-endian (Part E section 5.2). For readers who know Core.
use Rattle.std.specs.Prelude.{ℕ, ◌+◌, ◌*◌, ◌%◌, min, List, [], ◌∷◌, ◌++◌, length}
use Rattle.octets.specs.Octets.{le}

-- 5.4.4, an event: indicator 0x04, event code, how many parameter octets, the parameters
abbrev pub event : ℕ → List ℕ → List ℕ
event code params = 0x04 ∷ code ∷ length params ∷ params

-- 5.4.2, ACL data: indicator 0x02, a word with the handle in its low 12 bits and the boundary flag in the next two (the
-- broadcast flag above them is 0), how many octets of data, the data
abbrev pub acl_word : ℕ → ℕ → ℕ
acl_word handle boundary = handle % 4096 + 4096 * (boundary % 4)

abbrev pub acl : ℕ → ℕ → List ℕ → List ℕ
acl handle boundary load = 0x02 ∷ le 2 (acl_word handle boundary) ++ le 2 (length load) ++ load

-- 7.7.14, the parameters of Command Complete (0x0E): how many command packets the host may send, the opcode, the return
-- parameters
abbrev pub complete_params : ℕ → ℕ → List ℕ → List ℕ
complete_params num op return = num ∷ le 2 op ++ return

-- 7.7.15, the parameters of Command Status (0x0F)
abbrev pub status_params : ℕ → ℕ → ℕ → List ℕ
status_params num status op = status ∷ num ∷ le 2 op

-- 7.7.19, the parameters of Number Of Completed Packets (0x13): the number of pairs, then each handle with its count, in
-- the order of 5.2 for arrays of parameters
unfoldable pub pairs : List ℕ → List ℕ → List ℕ
pairs [] counts = []
pairs (handle ∷ handles) [] = []
pairs (handle ∷ handles) (count ∷ counts) = le 2 handle ++ le 2 count ++ pairs handles counts

abbrev pub completed_params : List ℕ → List ℕ → List ℕ
completed_params handles counts = min (length handles) (length counts) ∷ pairs handles counts

-- 7.7.65, the parameters of an LE Meta event (0x3E)
abbrev pub meta_params : ℕ → List ℕ → List ℕ
meta_params subevent params = subevent ∷ params
