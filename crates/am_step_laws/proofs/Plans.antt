-- What a row's plan does, and the effect once it is done.
use Rattle.am_step_laws.proofs.EffectWords.{◌≡◌, ℕ, Bool, true, false, nat_lt, ◌==◌, ◌&&◌, if◌then◌else◌, List, [], inl, inr, refl, ap, arith, All, nat_tests}
use Rattle.am_step_laws.proofs.EffectWords.{All-nil, Stamp, stamps_are_equal, Entry, Leave, Outcome, NodeEvent, size, Packet, Letter, with_letter, Status, Departed, Node}
use Rattle.am_step_laws.proofs.EffectWords.{view, other_members, is_member, is_sequencer, has_room, node_with_report, push_entry, refresh, refresh_at_end, Plan, plan_without_letters, plan_with_letter}
use Rattle.am_step_laws.proofs.EffectWords.{plan_with_poll, with_one_more_letter, with_letter_where, plan_numbering_entry, accept_packet_of, sends_accept, letters_with_accept, finish, split_on_bool, both_of_and, member_hears_other}
use Rattle.am_step_laws.proofs.EffectWords.{Cause, calls, hears, Change, refreshes, settles, takes_report, departs, looks, closes, Changes, unchanged, changed}
use Rattle.am_step_laws.proofs.EffectWords.{PlainChangesInTurn, nothing_yet, used_report, and_then, ChangesWithLook, plainly, looked, at_end, let_go, closing, Says, accept, LetterSays}
use Rattle.am_step_laws.proofs.EffectWords.{OutcomeTells, Effect}
use Rattle.am_base.specs.declared.outcome.Outcome.TheVariants as said
use Rattle.am_packet.specs.declared.packet.Packet.TheVariants as packet
use Rattle.am_step_laws.proofs.{Items.all_letters_with_one_more, Rests.RestsButForOwnLeave, Rests.RestsWithWholeList, Rests.end_refresh_rests_with_list}

-- ---- changes in turn

and_last : {c : Cause} {o : Outcome} {m n k : Node} → Changes c o m n → Change c o n k → Changes c o m k
and_last unchanged x = changed x unchanged
and_last (changed y ys) x = changed y (and_last ys x)

-- the changes of a course
pub course_gives_changes : {c : Cause} {o : Outcome} {m n : Node} → PlainChangesInTurn c o m n → Changes c o m n
course_gives_changes nothing_yet = unchanged
course_gives_changes {m = m} (used_report s v report by may) = changed (takes_report {m = m} s v report by may)
    (changed (refreshes {m = node_with_report m s report}) unchanged)
course_gives_changes (and_then h z plain) = and_last (course_gives_changes h) z

deed_changes : {c : Cause} {o : Outcome} {m n : Node} → ChangesWithLook c o m n → Changes c o m n
deed_changes (plainly h) = course_gives_changes h
deed_changes (looked {n = n} b verdict h over why look is) = and_last (course_gives_changes h) (looks {m = n} b verdict over why look is)

-- ---- letters

abbrev pub AllLettersSay : Node → Cause → Node → List Letter → Type 0
AllLettersSay m c n letters = All (LetterSays m c n) letters

pub nothing_said_without_letters : (m : Node) (c : Cause) (n : Node) → AllLettersSay m c n []
nothing_said_without_letters m c n = All-nil (LetterSays m c n)

pub letters_say_with_one_more : (m : Node) (c : Cause) (n : Node) (to : List ℕ) (packet : Packet) (letters : List Letter) → Says m c n to packet → AllLettersSay m c n letters
    → AllLettersSay m c n (with_letter to packet letters)
letters_say_with_one_more m c n to packet letters s h = all_letters_with_one_more (LetterSays m c n) to packet letters (record { says = s; any = refl }) h

-- ---- plans

-- A plan whose node comes of changes, whose answer tells what it says, and whose letters say what is so once the step is done, of each
-- node that this relation ties to the plan's.
pub record PlanDoes (R : Node → Node → Type 0) (m : Node) (c : Cause) (p : Plan) : Type 0 where
  pub stays : p.departs ≡ false
  pub changes : (n : Node) → PlainChangesInTurn c (p.outcome n) m p.node
  pub answer : (n : Node) → R p.node n → OutcomeTells m c n (p.outcome n)
  pub letters : (n : Node) → R p.node n → AllLettersSay m c n (p.letters n)

-- the effect of a row
pub record PlanHasEffect (m : Node) (c : Cause) (p : Plan) : Type 0 where
  pub effect : Effect m c (finish m p)

-- by what a test says
pub either_plan_has_effect : (m : Node) (c : Cause) (b : Bool) (p q : Plan) → (b ≡ true → PlanHasEffect m c p) → (b ≡ false → PlanHasEffect m c q)
    → PlanHasEffect m c (if b then p else q)
either_plan_has_effect m c true p q f g = f refl
either_plan_has_effect m c false p q f g = g refl

pub either_plan_does : (R : Node → Node → Type 0) (m : Node) (c : Cause) (b : Bool) (p q : Plan) → (b ≡ true → PlanDoes R m c p) → (b ≡ false → PlanDoes R m c q)
    → PlanDoes R m c (if b then p else q)
either_plan_does R m c true p q f g = f refl
either_plan_does R m c false p q f g = g refl

-- what stays with the whole list stays
pub plan_does_with_whole_list : (m : Node) (c : Cause) (p : Plan) → PlanDoes RestsButForOwnLeave m c p → PlanDoes RestsWithWholeList m c p
plan_does_with_whole_list m c p h = record { stays = h.stays; changes = h.changes; answer = λ n r. h.answer n r.rests; letters = λ n r. h.letters n r.rests }

-- ---- the plans of rows

pub nothing_to_answer : Unit {0}
nothing_to_answer = tt

pub course_of_no_change : (c : Cause) (o : Outcome) (m : Node) → PlainChangesInTurn c o m m
course_of_no_change c o m = nothing_yet

-- by their node, whatever the answer
abbrev pub ComesWhateverTheAnswer : Node → Cause → Node → Type 0
ComesWhateverTheAnswer m c n = (o : Outcome) → PlainChangesInTurn c o m n

-- what the letter tells is so once the step is done
abbrev pub LetterTellsAfterStep : (Node → Node → Type 0) → Node → Cause → Node → List ℕ → (Node → Packet) → Type 0
LetterTellsAfterStep R m c p to packet = (n : Node) → R p n → Says m c n to (packet n)

abbrev pub AnswerHoldsAfterStep : (Node → Node → Type 0) → Node → Cause → Node → (Node → Outcome) → Type 0
AnswerHoldsAfterStep R m c p outcome = (n : Node) → R p n → OutcomeTells m c n (outcome n)

pub quiet_plan_does : (R : Node → Node → Type 0) (m : Node) (c : Cause) (p : Node) (o : Outcome) → PlainChangesInTurn c o m p → AnswerHoldsAfterStep R m c p (λ n. o)
    → PlanDoes R m c (plan_without_letters p o)
quiet_plan_does R m c p o h a = record { stays = refl; changes = λ n. h; answer = a; letters = λ n r. nothing_said_without_letters m c n }

-- with an answer that the step tells
pub plan_with_told_answer_does : (R : Node → Node → Type 0) (m : Node) (c : Cause) (p : Node) (o : Outcome) (f : Node → Outcome) → ((n : Node) → PlainChangesInTurn c (f n) m p)
    → AnswerHoldsAfterStep R m c p f → PlanDoes R m c (record (plan_without_letters p o) { outcome = f })
plan_with_told_answer_does R m c p o f h a = record { stays = refl; changes = h; answer = a; letters = λ n r. nothing_said_without_letters m c n }

pub polling_plan_does : (R : Node → Node → Type 0) (m : Node) (c : Cause) (p : Node) (o : Outcome) → PlainChangesInTurn c o m p → AnswerHoldsAfterStep R m c p (λ n. o)
    → PlanDoes R m c (plan_with_poll p o)
polling_plan_does R m c p o h a = record { stays = refl; changes = λ n. h; answer = a; letters = λ n r. nothing_said_without_letters m c n }

pub telling_plan_does : (R : Node → Node → Type 0) (m : Node) (c : Cause) (p : Node) (o : Outcome) (to : List ℕ) (packet : Node → Packet) → PlainChangesInTurn c o m p
    → AnswerHoldsAfterStep R m c p (λ n. o) → LetterTellsAfterStep R m c p to packet → PlanDoes R m c (plan_with_letter p o to packet)
telling_plan_does R m c p o to packet h a t = record {
  stays = refl;
  changes = λ n. h;
  answer = a;
  letters = λ n r. letters_say_with_one_more m c n to (packet n) [] (t n r) (nothing_said_without_letters m c n);
}

pub plan_with_letter_does : (R : Node → Node → Type 0) (m : Node) (c : Cause) (p : Plan) (to : List ℕ) (packet : Node → Packet) → PlanDoes R m c p → LetterTellsAfterStep R m c p.node to packet
    → PlanDoes R m c (with_one_more_letter p to packet)
plan_with_letter_does R m c p to packet h t = record {
  stays = h.stays;
  changes = h.changes;
  answer = h.answer;
  letters = λ n r. letters_say_with_one_more m c n to (packet n) (p.letters n) (t n r) (h.letters n r);
}

pub plan_with_tested_letter_does : (R : Node → Node → Type 0) (m : Node) (c : Cause) (test : Node → Bool) (p : Plan) (to : List ℕ) (packet : Node → Packet) → PlanDoes R m c p
    → ((n : Node) → R p.node n → test n ≡ true → Says m c n to (packet n)) → PlanDoes R m c (with_letter_where test p to packet)
plan_with_tested_letter_does R m c test p to packet h t = record {
  stays = h.stays;
  changes = h.changes;
  answer = h.answer;
  letters = λ n r. split_on_bool (test n) (λ b. rw b (letters_say_with_one_more m c n to (packet n) (p.letters n) (t n r b) (h.letters n r))) (λ b. rw b (h.letters n r));
}

pub numbering_plan_does : (R : Node → Node → Type 0) (m : Node) (c : Cause) (p : Node) (e : Entry) (o : Outcome) (packet : Node → Packet)
    → PlainChangesInTurn c o m (push_entry p e)
    → AnswerHoldsAfterStep R m c (push_entry p e) (λ n. o) → LetterTellsAfterStep R m c (push_entry p e) (other_members p) packet → PlanDoes R m c (plan_numbering_entry p e o packet)
numbering_plan_does R m c p e o packet h a t = record {
  stays = refl;
  changes = λ n. h;
  answer = a;
  letters = λ n r. letters_say_with_one_more m c n (other_members p) (packet n) [] (t n r) (nothing_said_without_letters m c n);
}

-- ---- a plan that is done

accept_says : (m : Node) (c : Cause) (p : Plan) (n : Node) (letters : List Letter) → AllLettersSay m c n letters → AllLettersSay m c n (letters_with_accept m p n letters)
accept_says m c p n letters h = split_on_bool (sends_accept m p n)
    (λ t. let leads = (both_of_and (is_sequencer n) _ t).0 in rw t (letters_say_with_one_more m c n (other_members n) (accept_packet_of n p.polls) letters (accept (other_members n) p.polls leads) h))
    (λ f. rw f h)

ended : {c : Cause} {o : Outcome} {m p : Node} → ChangesWithLook c o m p → Changes c o m (refresh_at_end p)
unfolding refresh_at_end
ended {p = p} h = and_last (and_last (deed_changes h) (refreshes {m = p})) (settles {m = refresh p})

-- by what it does before its end
pub deeds_give_plan_effect : (m : Node) (c : Cause) (p : Plan) → p.departs ≡ false → ((n : Node) → ChangesWithLook c (p.outcome n) m p.node)
    → ((n : Node) → RestsWithWholeList p.node n → OutcomeTells m c n (p.outcome n)) → ((n : Node) → RestsWithWholeList p.node n → AllLettersSay m c n (p.letters n)) → PlanHasEffect m c p
unfolding finish
deeds_give_plan_effect m c p stays deeds answer says =
    let n = refresh_at_end p.node in
    let r = end_refresh_rests_with_list p.node in
    record {
      effect = rw stays (record {
        changes = ended (deeds n);
        ending = at_end (deeds n);
        answer = answer n r;
        sender = n;
        is = refl;
        stays = inl refl;
        letters = accept_says m c p n (p.letters n) (says n r);
      });
    }

pub doing_plan_has_effect : (m : Node) (c : Cause) (p : Plan) → PlanDoes RestsWithWholeList m c p → PlanHasEffect m c p
doing_plan_has_effect m c p h = deeds_give_plan_effect m c p h.stays (λ n. plainly (h.changes n)) h.answer h.letters

pub ruleset rows = (either_plan_has_effect, doing_plan_has_effect, either_plan_does, quiet_plan_does, polling_plan_does, telling_plan_does, course_of_no_change, nothing_to_answer)

-- ---- who departs

-- a leaver that was let go sends nothing
pub let_go_row_has_effect : (m : Node) (c : Cause) (s : ℕ) (v : Stamp) (number : ℕ) → c ≡ hears (packet.Gone s v number) → member_hears_other m s ≡ true → m.leaving ≡ true
    → PlanHasEffect m c (plan_without_letters (record m { status = Departed }) said.Departed)
unfolding finish refresh_at_end
let_go_row_has_effect m c s v number is heard leaves =
    let p = record m { status = Departed } in
    let n = refresh_at_end p in
    let quietly : is_sequencer n ≡ false = ap (λ (t : Status). is_member t && stamps_are_equal n.core.promise (view n) && ((view n).by == n.core.who))
    (end_refresh_rests_with_list p).rests.status in
    record {
      effect = rw quietly (record {
        changes = changed (departs {m = m} s v number is heard leaves) (changed (refreshes {m = p}) (changed (settles {m = refresh p}) unchanged));
        ending = let_go s v number is heard leaves;
        answer = tt;
        sender = n;
        is = refl;
        stays = inl refl;
        letters = nothing_said_without_letters m c n;
      });
    }

-- the last member's own Leave is numbered, and it departs; it tells nobody
pub last_leave_has_effect : (m : Node) (c : Cause) (p : Plan) (event : NodeEvent) → c ≡ calls event → PlainChangesInTurn c said.Departed m p.node → is_sequencer p.node ≡ true
    → p.node.leaving ≡ true
    → nat_lt 0 (size (other_members p.node)) ≡ false → has_room p.node ≡ true → view p.node ≡ view m
    → size (other_members (refresh_at_end (push_entry p.node (Leave p.node.core.who)))) ≡ 0 → p.letters (refresh_at_end (push_entry p.node (Leave p.node.core.who)))
    ≡ [] → PlanHasEffect m c (record p { node = push_entry p.node (Leave p.node.core.who); outcome = λ n. said.Departed; numbers = true; departs = true })
unfolding finish
last_leave_has_effect m c p event called comes leads leaves alone room viewed none quietly =
    let n = refresh_at_end (push_entry p.node (Leave p.node.core.who)) in
    let q = record p { node = push_entry p.node (Leave p.node.core.who); outcome = λ n. said.Departed; numbers = true; departs = true } in
    let nobody : (size (other_members n) == 0) ≡ true = grind (arith, nat_tests) in
    let silent : letters_with_accept m q n (p.letters n) ≡ [] = split_on_bool (sends_accept m q n) (λ t. rw (t, nobody) quietly) (λ f. rw f quietly) in
    record {
      effect = rw silent (record {
        changes = and_last (course_gives_changes comes) (closes {m = p.node} leads leaves alone room);
        ending = closing {x = p.node} event called comes leads leaves alone room viewed;
        answer = tt;
        sender = n;
        is = refl;
        stays = inr refl;
        letters = nothing_said_without_letters m c n;
      });
    }
