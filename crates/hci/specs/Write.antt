-- What a writer answers and leaves in the lent buffer: document 01's questions 8 and 9. For callers of the writers.
use Rattle.std.specs.Prelude.{◌≡◌, ℕ, List, ◌++◌, Result, Ok, Err, cond, length, drop, leb, eqb}
use Rattle.hci.specs.Packet.{event}
use Rattle.hci.specs.declared.write.WriteError.{WriteError}
use Rattle.hci.specs.declared.write.WriteError.TheVariants.{TooLong, NoRoom}

-- document 01's number of an answer, 0 where the packet was written
abbrev pub number : Result ℕ WriteError → ℕ
number (Ok n) = 0
number (Err TooLong) = 8
number (Err NoRoom) = 9

-- how many octets it says were written
abbrev pub count : Result ℕ WriteError → ℕ
count (Ok n) = n
count (Err e) = 0

-- the first question with a "no", 0 where there is none. Question 8: is n, of what question 8 counts, at most `most`?
-- Question 9: does the buffer hold the packet?
unfoldable pub refusal : ℕ → ℕ → List ℕ → List ℕ → ℕ
refusal n most packet out = cond (leb n most) (cond (leb (length packet) (length out)) 0 9) 8

-- the answer r of a writer of this packet, and the buffer after it: written, the packet stands at the front and the rest of
-- the buffer is as it was; refused, all of the buffer is
pub record Wrote (n most : ℕ) (packet out : List ℕ) (r : Result ℕ WriteError) (after : List ℕ) : Type 0 where
  pub numbered : number r ≡ refusal n most packet out
  pub counted : count r ≡ cond (eqb (refusal n most packet out) 0) (length packet) 0
  pub leaves : after ≡ cond (eqb (refusal n most packet out) 0) (packet ++ drop (length packet) out) out

-- the same of an event, whose length field is one octet
abbrev pub WroteEvent : ℕ → List ℕ → List ℕ → Result ℕ WriteError → List ℕ → Type 0
WroteEvent code params out r after = Wrote (length params) 255 (event code params) out r after
