-- The stream in pieces: however the octets are cut into pieces, feeding the pieces one after the other hands out the
-- packets that feeding them whole would, and leaves the same octets waiting. For hosts that read a stream.
use Rattle.std.specs.Prelude.{Err, is_err}
use Rattle.std.proofs.lemmas.Bool.{cases_Bool}
use native.Mathlib.Omega.{arith}
use mathlib.Core.Path.{◌≡◌, refl, sym, ap, ◌∙◌}
use mathlib.Core.List.{List, [], ◌∷◌, ◌++◌, flatten, append_assoc, append-nil}
use mathlib.Core.Bool.{true, false}
use Prim.Native.Nat.{ℕ}
use Rattle.h4.specs.Framing.{packet_length, whole, packets, rest, framed}
use Rattle.h4.specs.Stream.{lost, handed_out, waiting, handed_out_all, waiting_all}
use Rattle.h4.proofs.Splitting.{packets_append, rest_append, whole_rest, packets_none, rest_none, none_there}
use Rattle.h4.specs.declared.UndefinedIndicator.{UndefinedIndicator}
use Rattle.h4.proofs.Losing.{framed_undefined, undefined_framed, lost_append, lost_by_rest, kept_before}

-- One piece fed to a stream in which p waits, with more octets to come

-- what is handed out, and the packets of what then waits with the octets to come, are the packets of all of it
handed_then : (p bytes more : List ℕ) → handed_out p bytes ++ packets (waiting p bytes ++ more) ≡ packets ((p ++ bytes) ++ more)
unfolding handed_out waiting
handed_then p bytes more = grind (arith, cases_Bool (lost (p ++ bytes)), packets_append (p ++ bytes) more)

-- and what is left of them in the end is the same
waiting_then : (p bytes more : List ℕ) → rest (waiting p bytes ++ more) ≡ rest ((p ++ bytes) ++ more)
unfolding waiting
waiting_then p bytes more = grind (arith, cases_Bool (lost (p ++ bytes)), rest_append (p ++ bytes) more)

-- All pieces, from any octets that wait

-- the packets handed out, and those of what then waits, are the packets of the whole: in every case
pub handed_out_first : (p : List ℕ) (parts : List (List ℕ))
    → handed_out_all p parts ++ packets (waiting_all p parts) ≡ packets (p ++ flatten parts)
unfolding handed_out_all waiting_all flatten
handed_out_first p [] = ap packets (sym (append-nil p))
handed_out_first p (bytes ∷ more) =
    append_assoc (handed_out p bytes) (handed_out_all (waiting p bytes) more) (packets (waiting_all (waiting p bytes) more))
    ∙ ap (◌++◌ (handed_out p bytes)) (handed_out_first (waiting p bytes) more)
    ∙ handed_then p bytes (flatten more)
    ∙ ap packets (append_assoc p bytes (flatten more))

-- what then waits ends as the whole does
pub waiting_rest : (p : List ℕ) (parts : List (List ℕ)) → rest (waiting_all p parts) ≡ rest (p ++ flatten parts)
unfolding waiting_all flatten
waiting_rest p [] = ap rest (sym (append-nil p))
waiting_rest p (bytes ∷ more) =
    waiting_rest (waiting p bytes) more ∙ waiting_then p bytes (flatten more) ∙ ap rest (append_assoc p bytes (flatten more))

-- where framing is not lost, no whole packet waits
pub waiting_whole : (p : List ℕ) (parts : List (List ℕ)) → whole p ≡ 0 → lost (p ++ flatten parts) ≡ false
    → whole (waiting_all p parts) ≡ 0
unfolding waiting_all flatten waiting
waiting_whole p [] w e = w
waiting_whole p (bytes ∷ more) w e =
    let all : lost ((p ++ bytes) ++ flatten more) ≡ false = ap lost (append_assoc p bytes (flatten more)) ∙ e in
    let kept : lost (p ++ bytes) ≡ false = kept_before (p ++ bytes) (flatten more) all in
    let same = lost_by_rest (waiting p bytes ++ flatten more) _ (waiting_then p bytes (flatten more)) in
    waiting_whole (waiting p bytes) more (rw kept (whole_rest (p ++ bytes))) (same ∙ all)

-- so feeding pieces hands out the packets of the whole and leaves its rest waiting
pub pieces_from : (p : List ℕ) (parts : List (List ℕ)) → whole p ≡ 0 → lost (p ++ flatten parts) ≡ false
    → (handed_out_all p parts ≡ packets (p ++ flatten parts)) × (waiting_all p parts ≡ rest (p ++ flatten parts))
pieces_from p parts w e =
    let last = waiting_whole p parts w e in
    let none : packets (waiting_all p parts) ≡ [] = packets_none (waiting_all p parts) last in (
      sym (append-nil (handed_out_all p parts)) ∙ ap (◌++◌ (handed_out_all p parts)) (sym none) ∙ handed_out_first p parts,
      sym (rest_none (waiting_all p parts) last) ∙ waiting_rest p parts,
    )

-- The theorem, from an empty stream

-- feeding pieces hands out the packets that feeding the whole would, and leaves the same octets waiting
pub pieces : (parts : List (List ℕ)) → lost (flatten parts) ≡ false
    → (handed_out_all [] parts ≡ packets (flatten parts)) × (waiting_all [] parts ≡ rest (flatten parts))
pieces parts e = pieces_from [] parts none_there e

-- where framing is lost in the whole, it is lost in what waits after the pieces, at the same indicator
pub pieces_lost : (parts : List (List ℕ)) (i : UndefinedIndicator) → framed (flatten parts) ≡ Err i
    → framed (waiting_all [] parts) ≡ Err i
pieces_lost parts i e =
    undefined_framed (waiting_all [] parts) i (ap packet_length (waiting_rest [] parts) ∙ framed_undefined (flatten parts) i e)

-- and in every case the packets handed out are the first ones of the whole
pub pieces_first : (parts : List (List ℕ)) → handed_out_all [] parts ++ packets (waiting_all [] parts) ≡ packets (flatten parts)
pieces_first parts = handed_out_first [] parts

-- Framing lost with p waiting

-- whatever is fed, nothing is handed out, all of it waits, and framing stays lost at the same indicator
pub record LostFor (p : List ℕ) (parts : List (List ℕ)) (i : UndefinedIndicator) : Type 0 where
  pub nothing : handed_out_all p parts ≡ []
  pub waits : waiting_all p parts ≡ p ++ flatten parts
  pub lost : framed (p ++ flatten parts) ≡ Err i

pub lost_for_good : (p : List ℕ) (parts : List (List ℕ)) (i : UndefinedIndicator) → framed p ≡ Err i → LostFor p parts i
unfolding handed_out_all waiting_all handed_out waiting flatten
lost_for_good p [] i e = record { nothing = refl; waits = sym (append-nil p); lost = ap framed (append-nil p) ∙ e }
lost_for_good p (bytes ∷ more) i e =
    let l : framed (p ++ bytes) ≡ Err i = lost_append p bytes i e in
    let t : is_err (framed (p ++ bytes)) ≡ true = ap is_err l in
    let h = lost_for_good (p ++ bytes) more i l in
    let assoc = append_assoc p bytes (flatten more) in
    record { nothing = rw t h.nothing; waits = rw t (h.waits ∙ assoc); lost = ap framed (sym assoc) ∙ h.lost }
