-- A command follows its rule: Reset and Set Event Mask theirs where they are answered with status 0, every other passes. For the
-- proof of demand 3.
use Rattle.std.specs.Prelude.{Result, Ok, Err}
use Prim.Native.Nat.{ℕ, ◌+◌, ◌-◌, ◌*◌, ◌/◌, ◌%◌, ◌^◌, ◌≤◌, ◌<◌}
use mathlib.Core.Path.{◌≡◌, refl, sym, ap, ◌∙◌}
use mathlib.Core.List.{List, [], ◌∷◌}
use mathlib.Core.Logic.{inl}
use mathlib.Core.Bool.{Bool, true, false, true≢false, ◌&&◌, and-eq-true_iff}
use native.Mathlib.Omega.{arith}
use lib.Dec.{eqb, ltb}
use lib.ListN.{length, get_or-eq_default}
use borrow.Author.Tests.{ltb-true, ltb-false, eqb-true, eq-eqb}
use borrow.Table.Steps.{cases}
use Rattle.octets.specs.Octets.{octet, number_at}
use Rattle.lists.specs.Lists.{all}
use Rattle.lists.proofs.Tests.{all_at}
use Rattle.hci.specs.Read.{parse_command, parameters}
use Rattle.hci.specs.declared.read.Command.{Command}
use Rattle.profile.specs.Profile.{row_answer, answers_fit}
use Rattle.answers.specs.Answers.{AnswerModel, Form, Complete, Status, Silent, octets_of}
use Rattle.state.specs.State.{Model}
use Rattle.commands.specs.Following.{enabled_by}
use Rattle.commands.specs.Outcome.{Given, given, done}
use Rattle.commands.specs.Command as whole
use Rattle.commands.specs.Leaves.{Shaped, Leaves, IsReset, sets_event_mask}
use Rattle.commands.proofs.CommandLeaves.{command_leaves, row_answer_most}
use Rattle.calls.specs.Packets.{Profile, Reply, reply, by_command}
use Rattle.credits.specs.Credits as book
use Rattle.credits.specs.Steps as steps
use Rattle.agreement.specs.Agreement.{events_fed, command_fed, TypedProfile, buffers_of}
use Rattle.agreement.proofs.Splitting.{fed_nothing}
use Rattle.agreement.proofs.Replying.{ReplyFollows}
use Rattle.agreement.proofs.Acknowledging.{ack_fed, answer_fed_lem}
use Rattle.agreement.proofs.Succeeding.{reset_heard, mask_heard, reset_does, mask_does}
use Rattle.hci.specs.declared.read.ReadError.{ReadError}
use Rattle.hci.specs.declared.read.ReadError.TheVariants.{ShortHeader, OtherKind, ShortBody}

-- ---- the opcode of a packet is a 16-bit number

octet_below : (p : List ℕ) (i : ℕ) → all (λ x. ltb x 256) p ≡ true → octet p i < 256
octet_below p i h =
    cases (ltb i (length p))
    (λ e. ltb-true (octet p i) 256 (all_at (λ x. ltb x 256) p i 0 h (ltb-true i (length p) e)))
    (λ e. omega (arith, get_or-eq_default p 0 (ltb-false i (length p) e)))

abbrev WordOpcode : Result Command ReadError → Type 0
WordOpcode (Ok c) = c.opcode < 0x10000
WordOpcode (Err ShortHeader) = Unit {0}
WordOpcode (Err OtherKind) = Unit {0}
WordOpcode (Err ShortBody) = Unit {0}

opcode_word : (p : List ℕ) → all (λ x. ltb x 256) p ≡ true → WordOpcode (parse_command p)
unfolding parse_command
opcode_word p h =
    cases (ltb (length p) 4) (λ a. rw a tt)
    (λ a. rw a (cases (eqb (octet p 0) 0x01)
    (λ b. rw b (cases (ltb (length p - 4) (octet p 3)) (λ c. rw c tt)
    (λ c. rw c (omega (arith, octet_below p 1 h, octet_below p 2 h)))))
    (λ b. rw b tt)))

-- ---- what is heard of a command that is neither Reset nor Set Event Mask answered with status 0

nothing_heard : (form : Form) (op : ℕ) (octets : List ℕ) → (op ≡ 0x0C03 → octet octets 0 ≡ 0 → ⊥)
    → (op ≡ 0x0C01 → octet octets 0 ≡ 0 → ⊥)
    → ack_fed form op octets ≡ []
nothing_heard Complete op octets r m =
    let zero = eqb (octet octets 0) 0 in
    cases (eqb op 0x0C03 && zero)
    (λ e.
    let k = (and-eq-true_iff (eqb op 0x0C03) zero).0 e in
    absurd (r (eqb-true op 0x0C03 k.0) (eqb-true (octet octets 0) 0 k.1)))
    (λ e. rw e (cases (eqb op 0x0C01 && zero)
    (λ f.
    let k = (and-eq-true_iff (eqb op 0x0C01) zero).0 f in
    absurd (m (eqb-true op 0x0C01 k.0) (eqb-true (octet octets 0) 0 k.1)))
    (λ f. rw f)))
nothing_heard Status op octets r m = refl
nothing_heard Silent op octets r m = refl

-- ---- the buffers and the mask that a command leaves

buffers_left : {sets : Bool} {m n : Model} {a : AnswerModel} → Leaves sets m (record { answer = a; state = n })
    → buffers_of n ≡ buffers_of m
buffers_left l = rw (l.handles, l.queue, l.flying)

-- bit 4 of eight octets is bit 4 of the first
bit_four : (p : List ℕ) → enabled_by (number_at 8 p 0) 4 ≡ enabled_by (octet p 0) 4
bit_four p =
    let rest = number_at 7 p 1 in
    let e : (octet p 0 + 256 * rest) / 2 ^ 4 % 2 ≡ octet p 0 / 2 ^ 4 % 2 = omega arith in
    rw e

-- ---- the three rules: the book takes the command for q

abbrev replied : Given → ℕ → ℕ → Model → Reply
replied i answer op m = reply (whole.command_octets i answer op m) (whole.command i answer op m).state

-- what is heard of status 0 alone
done_fed : (num op : ℕ) {a : AnswerModel} → a ≡ done 0 → op < 0x10000
    → events_fed (octets_of num op a) ≡ ack_fed Complete op (0 ∷ [])
done_fed num op e small = rw e (answer_fed_lem num op (done 0) small (inl refl))

sets_mask : (i : Given) (answer op : ℕ) → answer ≡ 0 → op ≡ 0x0C01 → length i.params ≡ 8 → sets_event_mask i answer op ≡ true
sets_mask i answer op a o n = rw (eq-eqb answer 0 a, eq-eqb op 0x0C01 o, eq-eqb (length i.params) 8 n)

module _ (g : Profile) (q : book.Packet) (i : Given) (m : Model) where
  reset_follows : (answer op : ℕ) → answer ≡ 0 → op ≡ 0x0C03 → length i.params ≡ 0 → q ≡ book.Packet.other
      → ReplyFollows g q m (replied i answer op m)
  reset_follows answer op zero same none e =
      let does = reset_does i m none in
      rw (zero, same) (steps.Step.reset (ap book.Call.packet e) does.1
      (ap steps.events (done_fed i.profile.num_command_packets 0x0C03 does.0 (omega arith))))

  mask_follows : Shaped i → (answer op : ℕ) → answer ≡ 0 → op ≡ 0x0C01 → length i.params ≡ 8
      → q ≡ book.Packet.set_event_mask (enabled_by (octet i.params 0) 4) → ReplyFollows g q m (replied i answer op m)
  mask_follows shaped answer op zero same eight e =
      let does = mask_does i m eight in
      let bit = enabled_by (octet i.params 0) 4 in
      let kept = buffers_left (command_leaves i shaped 0 0x0C01 (omega arith) (λ r. absurd (omega (arith, r.1))) m) in
      let told : enabled_by (whole.command i 0 0x0C01 m).state.masks.event 4 ≡ bit = rw does.1 (bit_four i.params) in
      rw (zero, same) (steps.Step.mask bit (ap book.Call.packet e) (rw (kept, told))
      (ap steps.events (done_fed i.profile.num_command_packets 0x0C01 does.0 (omega arith))))

  pass_follows : Shaped i → (answer op : ℕ) → answer ≤ 3 → op < 0x10000 → (IsReset i answer op → ⊥)
      → sets_event_mask i answer op ≡ false
      → steps.may_pass (book.Call.packet q) ≡ true → ReplyFollows g q m (replied i answer op m)
  pass_follows shaped answer op most small other none may =
      let o = whole.command i answer op m in
      let left = command_leaves i shaped answer op most other m in
      let same = buffers_left left in
      let unset = left.mask none in
      let quiet = nothing_heard o.answer.form op o.answer.octets
      (λ e z. let k = reset_heard i answer op m e most z in other (k.0, e, k.1))
      (λ e z.
      let k = mask_heard i answer op m e most z in
      true≢false (sym (sets_mask i answer op k.0 e k.1) ∙ none)) in
      let fed = answer_fed_lem i.profile.num_command_packets op o.answer small left.answer.follows in
      steps.Step.pass may (rw (same, unset)) (ap steps.events (fed ∙ quiet))

-- ---- any command

module _ (g : Profile) (typed : TypedProfile g.controller) (fit : answers_fit g.opcodes g.answers ≡ true)
    (address : List ℕ) (six : length address ≡ 6) (random : ℕ) (p : List ℕ) (m : Model) where
  abbrev given_here : Given
  given_here = given g.controller address random (parameters p)

  shaped_here : Shaped given_here
  shaped_here = record { commands = typed.commands; features = typed.features; states = typed.states; address = six }

  -- what the book takes the command for
  unread : (c : Command) → c.opcode ≡ 0x0C03 → command_fed (Ok c) g p ≡ book.Packet.other
  unread c e = rw e

  may_pass_lem : (c : Command) → steps.may_pass (book.Call.packet (command_fed (Ok c) g p)) ≡ true
  may_pass_lem c =
      cases (eqb c.opcode 0x0C01 && eqb (row_answer g.opcodes g.answers 0x0C01) 0) (λ e. rw e) (λ e. rw e)

  mask_read : (c : Command) → c.opcode ≡ 0x0C01 → row_answer g.opcodes g.answers c.opcode ≡ 0
      → command_fed (Ok c) g p ≡ book.Packet.set_event_mask (enabled_by (octet (parameters p) 0) 4)
  mask_read c e z = rw (e, eq-eqb (row_answer g.opcodes g.answers 0x0C01) 0 (rw e at z))

  whole_follows : (c : Command) → c.opcode < 0x10000
      → ReplyFollows g (command_fed (Ok c) g p) m (by_command (Ok c) g address random p m)
  whole_follows c small =
      let op = c.opcode in
      let answer = row_answer g.opcodes g.answers op in
      let n = length (parameters p) in
      let q = command_fed (Ok c) g p in
      cases (eqb answer 0 && (eqb op 0x0C03 && eqb n 0))
      (λ e.
      let k = (and-eq-true_iff (eqb answer 0) (eqb op 0x0C03 && eqb n 0)).0 e in
      let l = (and-eq-true_iff (eqb op 0x0C03) (eqb n 0)).0 k.1 in
      let same : op ≡ 0x0C03 = eqb-true op 0x0C03 l.0 in
      reset_follows g q given_here m answer op (eqb-true answer 0 k.0) same (eqb-true n 0 l.1) (unread c same))
      (λ e. cases (sets_event_mask given_here answer op)
      (λ f.
      let k = (and-eq-true_iff (eqb answer 0) (eqb op 0x0C01 && eqb n 8)).0 f in
      let l = (and-eq-true_iff (eqb op 0x0C01) (eqb n 8)).0 k.1 in
      let same : op ≡ 0x0C01 = eqb-true op 0x0C01 l.0 in
      let zero : answer ≡ 0 = eqb-true answer 0 k.0 in
      mask_follows g q given_here m shaped_here answer op zero same (eqb-true n 8 l.1) (mask_read c same zero))
      (λ f. pass_follows g q given_here m shaped_here answer op (row_answer_most g.opcodes g.answers op fit) small
      (λ r. true≢false (sym (rw (eq-eqb answer 0 r.0, eq-eqb op 0x0C03 r.1, eq-eqb n 0 r.2)) ∙ e))
      f (may_pass_lem c)))

  read_follows : (r : Result Command ReadError) → WordOpcode r
      → ReplyFollows g (command_fed r g p) m (by_command r g address random p m)
  read_follows (Ok c) small = whole_follows c small
  read_follows (Err ShortHeader) small = steps.Step.pass refl refl (rw fed_nothing)
  read_follows (Err OtherKind) small = steps.Step.pass refl refl (rw fed_nothing)
  read_follows (Err ShortBody) small = steps.Step.pass refl refl (rw fed_nothing)

  pub command_follows : all (λ x. ltb x 256) p ≡ true
      → ReplyFollows g (command_fed (parse_command p) g p) m (by_command (parse_command p) g address random p m)
  command_follows octets = read_follows (parse_command p) (opcode_word p octets)
