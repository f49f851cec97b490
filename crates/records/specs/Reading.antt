-- What the code's record of a line stands for, and what the parts of the reader give. For the contracts of the reader.
use Rattle.std.specs.Prelude.{ℕ, suc, List, [], ◌∷◌, Bool, cond, ◌&&◌, eqb, ltb, length, take, drop, replicate}
use Rattle.std.specs.Prelude.{Option, Some, None}
use Rattle.lists.specs.Lists.{first_at}
use Rattle.calls.specs.Calls.{Call, on_packet, take_transmit, open_connection, completed}
use Rattle.records.specs.Lines.{Line, calls, no_record, decimal, is_number, is_hex_digit, hex_value}
use Rattle.records.specs.declared.Record.{Record}
use Rattle.records.specs.declared.Record.TheVariants as says

-- the call of a record; a packet's octets are the first of a buffer
abbrev pub call_of : Record → List ℕ → Call
call_of (says.Packet n) packet = on_packet (replicate 6 0) 0 (take n packet)
call_of (says.Take handle most) packet = take_transmit handle most
call_of (says.Completed handle count) packet = completed handle count
call_of (says.Open handle timing) packet = open_connection handle timing.interval timing.latency timing.timeout

abbrev pub line_of : Option Record → List ℕ → Line
line_of (Some r) packet = calls (call_of r packet)
line_of None packet = no_record

-- ---- the parts

abbrev pub is_tab : ℕ → Bool
is_tab x = eqb x 9

-- the value of a hex digit
unfoldable pub digit_of : ℕ → Option ℕ
digit_of x = cond (is_hex_digit x) (Some (hex_value x)) None

unfoldable pub number_of : List ℕ → Option ℕ
number_of f = cond (is_number f) (Some (decimal 0 f)) None

-- the first field, where a tab ends it: its number, and what stands behind the tab
abbrev pub followed : Option ℕ → List ℕ → Option (ℕ × List ℕ)
followed (Some n) behind = Some (n, behind)
followed None behind = None

unfoldable pub first_of : List ℕ → Option (ℕ × List ℕ)
first_of l = cond (ltb (first_at is_tab l) (length l))
    (followed (number_of (take (first_at is_tab l) l)) (drop (suc (first_at is_tab l)) l)) None

-- two fields, both numbers
abbrev pub pair_of : List (List ℕ) → Option (ℕ × ℕ)
pair_of [] = None
pair_of (a ∷ []) = None
pair_of (a ∷ b ∷ []) = cond (is_number a && is_number b) (Some (decimal 0 a, decimal 0 b)) None
pair_of (a ∷ b ∷ c ∷ more) = None
