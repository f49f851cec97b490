-- What stands behind an answer, from one name of its octets to another; and that what a writer wrote at the front of a buffer is
-- its packet. For the proofs of the functions that set an event behind an answer.
use mathlib.Core.Path.{◌≡◌, refl, ap, ◌∙◌}
use mathlib.Core.List.{List}
use Prim.Native.Nat.{ℕ, ◌≤◌}
use lib.ListN.{length, take}
use Rattle.std.specs.Prelude.{Result, Ok, Err}
use Rattle.std.specs.Result.{result_unwrap_or}
use Rattle.octets.proofs.Writing.{put_front}
use Rattle.hci.specs.Write.{Wrote, count}
use Rattle.hci.specs.declared.write.WriteError.{WriteError}
use Rattle.hci.proofs.Writers.{wrote_put}
use Rattle.answers.specs.Answers.{AnswerModel, followed}

-- octets that are equal serve as well
pub follows : {xs ys : List ℕ} (a : AnswerModel) {r : AnswerModel} → r ≡ followed xs a → xs ≡ ys → r ≡ followed ys a
follows a f e = f ∙ ap (λ (octets : List ℕ). followed octets a) e

-- how many octets a writer says it wrote, none where it refuses
counted : (r : Result ℕ WriteError) → result_unwrap_or r 0 ≡ count r
counted (Ok n) = refl
counted (Err e) = refl

-- the octets of its packet
pub wrote_front : {n most : ℕ} {packet out : List ℕ} {r : Result ℕ WriteError} {after : List ℕ}
    → Wrote n most packet out r after → n ≤ most → length packet ≤ length out
    → take (result_unwrap_or r 0) after ≡ packet
wrote_front {r = r} w f h = rw (counted r) (put_front (wrote_put w f h))
