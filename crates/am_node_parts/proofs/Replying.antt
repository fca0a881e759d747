-- What a row says: the same of a list's end as of all of it, and what it comes to once the step has ended.
use Rattle.std.proofs.Common.{◌≡◌, ◌≤◌, ℕ, List, [], Bool, true, false, ◌&&◌, ◌==◌, nat_lt, nat_le, if◌then◌else◌, Option, Some, None, refl, sym, ap, subst}
use Rattle.std.proofs.Common.{◌∙◌, arith}
use Rattle.std.proofs.lemmas.Bool.Decides.{nat_tests}
use Rattle.am_base.specs.declared.image.Image.{Image}
use Rattle.am_base.specs.declared.image.Report.{Report}
use Rattle.am_base.specs.declared.image.Vote.{Vote}
use Rattle.am_base.specs.declared.entry.Entry.TheVariants.{Data, Leave}
use Rattle.am_base.specs.declared.outcome.Outcome.{Outcome}
use Rattle.am_base.specs.declared.outcome.Outcome.TheVariants.{Decided, Fetching}
use Rattle.am_base.specs.declared.outcome.Outcome.TheVariants as said
use Rattle.am_base.specs.Lists.{Log, log_image_at, row_of_name, image_of_log}
use Rattle.am_base.specs.Names.{empty_set_of_names, without_name, size}
use Rattle.am_base.specs.Stamps.{stamps_are_equal}
use Rattle.am_node_defs.specs.Cores.{CoreKeepsEndOf, CoreFrontsAreInOrder}
use Rattle.am_node_defs.proofs.Ends.{image_at_end_is_image}
use Rattle.am_node_defs.proofs.CoreLaws.{since_accepted_reads_kept_end}
use Rattle.am_packet.specs.declared.packet.Packet.{Packet}
use Rattle.am_packet.specs.declared.packet.Packet.TheVariants as packet
use Rattle.am_packet.specs.Boxes.{Letter, with_letter}
use Rattle.am_model.specs.Node.{Node, set_of_one_name, other_members, push_entry, own_report_of}
use Rattle.am_model.specs.Emit.{Plan, StepResult, plan_without_letters, plan_with_poll, plan_with_letter, ack_packet_of, welcome_packet_of, fetch_packet_of, invite_packet_of, bcast_packet_of, result_packet_of, finish, accept_packet_of, sends_accept, letters_with_accept}
use Rattle.am_node_defs.specs.Sends.{request_and_body_of_waiting_send}
use Rattle.am_model.specs.Refresh.{refresh_at_end}
use Rattle.am_model.specs.Joining.{leaver_may_go, all_others_stored}
use Rattle.am_model.specs.Ballots.{BallotVerdict, vote_packet_of, letters_with_result, letters_with_fetch, plan_of_verdict}
use Rattle.am_model.specs.Ends as ends
use Rattle.am_model.specs.Ends.{IsEndOf, StepsAlike, node_with_log, ChangesAllAlike, TellsAlike}
use Rattle.am_node_parts.specs.Parts.{letters_with_accept_front}
use Rattle.am_node_parts.specs.Verdicts.{VerdictComesTo, IsTold}
use Rattle.am_node_parts.specs.declared.reply.Note.{Note}
use Rattle.am_node_parts.specs.declared.reply.Note.TheVariants as note
use Rattle.am_node_parts.specs.declared.reply.OwnLetter.{OwnLetter}
use Rattle.am_node_parts.specs.declared.reply.OwnLetter.TheVariants as own_letter
use Rattle.am_node_parts.specs.declared.reply.Telling.{Telling}
use Rattle.am_node_parts.specs.declared.reply.Telling.TheVariants as tell
use Rattle.am_node_parts.specs.declared.reply.StepAnswer.{StepAnswer}
use Rattle.am_node_parts.specs.declared.reply.StepAnswer.TheVariants as answer
use Rattle.am_node_parts.specs.declared.reply.Reply.{Reply}
use Rattle.am_node_parts.specs.Replies.{packet_of, own_packet, own_letters, letters_before_end, letters_with_told, outcome_of_answer, reply_letters, IsNoteWithin, IsOwnWithin, StandsAtEnd, MayBeTold}
use Rattle.am_node_parts.specs.Replies.{Ends, Replied, LastMemberLeaves, PlanReaches, MayBeLastTold, Replies, EndsOrDeparts, is_departure, departed_node, reply_without_letters, reply_with_poll, reply_with_telling}
use Rattle.am_node_parts.specs.Replies.{reply_asking_names}
use Rattle.am_model.proofs.Nodes.{KeepsEndOfLog, end_of_node_keeps_log}
use Rattle.am_model.proofs.Plans.{PlansAreAlike, finish_of_alike_plans, step_comes_to_whole_node}
use Rattle.am_node_parts.proofs.Ends.{told_by_standing_log, top_of_standing_log, untrimmed_node_ends_itself}
use Rattle.am_node_parts.proofs.Shown.{own_vote_on_whole_log}
use Rattle.am_node_parts.proofs.{Keeping.refresh_at_end_keeps_name, LastView.and_view_on_whole_log}

-- ---- what goes out, of an end as of all

ack_same : (m : Node) (all : Log) → CoreKeepsEndOf all m.core → ack_packet_of (node_with_log m all) ≡ ack_packet_of m
ack_same m all s = ap (λ (t : ℕ). packet.Ack m.core.who m.core.promise (record { stored = t; taken = m.core.taken })) (top_of_standing_log m all s)

fetch_same : (m : Node) (all : Log) → CoreKeepsEndOf all m.core → fetch_packet_of (node_with_log m all) ≡ fetch_packet_of m
fetch_same m all s = ap (λ (t : ℕ). packet.Fetch m.core.who m.core.promise t) (top_of_standing_log m all s)

vote_same : (m : Node) (all : Log) → CoreKeepsEndOf all m.core → vote_packet_of (node_with_log m all) ≡ vote_packet_of m
vote_same m all s = ap (λ (v : Vote). packet.Vote m.core.who m.core.promise v) (own_vote_on_whole_log m all s)

welcome_same : (m : Node) (name : ℕ) (all : Log) → CoreKeepsEndOf all m.core → welcome_packet_of (node_with_log m all) name ≡ welcome_packet_of m name
welcome_same m name all s =
    let base = s.base in
    ap (λ (i : Image). packet.Welcome m.core.who m.core.promise m.core.base (row_of_name i name).joined (log_image_at all m.core.base)) (told_by_standing_log m all s)
    ∙ ap (packet.Welcome m.core.who m.core.promise m.core.base (row_of_name (image_of_log m.core.log) name).joined)
    (sym (image_at_end_is_image all m.core.log m.core.base s.kept (omega arith)))

note_same : (what : Note) (m : Node) (all : Log) → CoreKeepsEndOf all m.core → packet_of what (node_with_log m all) ≡ packet_of what m
note_same note.Ack m all s = ack_same m all s
note_same note.Nack m all s = ap (λ (t : ℕ). packet.Nack m.core.who m.core.promise (record { stored = t; taken = m.core.taken })) (top_of_standing_log m all s)
note_same (note.Hold req) m all s = ap (λ (t : ℕ). packet.Hold m.core.who m.core.promise m.core.base t req) (top_of_standing_log m all s)
note_same (note.Welcome name) m all s = welcome_same m name all s
note_same note.LeaveAsk m all s =
    ap (λ (t : ℕ). packet.LeaveAsk m.core.who m.core.promise (record { stored = t; taken = m.core.taken })) (top_of_standing_log m all s)
note_same note.Vote m all s = vote_same m all s
note_same note.Fetch m all s = fetch_same m all s
note_same _ m all s = refl

result_same : (o : Outcome) (m : Node) (all : Log) (letters : List Letter) → CoreKeepsEndOf all m.core
    → letters_with_result o (node_with_log m all) letters ≡ letters_with_result o m letters
result_same (Decided number names) m all letters s = ap (λ (i : Image). with_letter (without_name names m.core.who)
    (result_packet_of m number names i.resilience) letters) (told_by_standing_log m all s)
result_same _ m all letters s = refl

asks_same : (o : Outcome) (m : Node) (all : Log) (letters : List Letter) → CoreKeepsEndOf all m.core → letters_with_fetch o (node_with_log m all) letters ≡ letters_with_fetch o m letters
asks_same (Fetching from want) m all letters s = ap (λ (p : Packet). with_letter (set_of_one_name from) p letters) (fetch_same m all s)
asks_same _ m all letters s = refl

-- a leaver may go
goes_same : (m : Node) (name : ℕ) (all : Log) → CoreKeepsEndOf all m.core → m.core.base ≤ m.core.acc → leaver_may_go (node_with_log m all) name ≡ leaver_may_go m name
goes_same m name all s low =
    let concerned = sym (since_accepted_reads_kept_end m.core low all s) in
    λ k. nat_lt 0 (row_of_name (told_by_standing_log m all s k) name).left
    && (nat_le (row_of_name (told_by_standing_log m all s k) name).left m.core.acc
    && all_others_stored m (without_name (concerned k) name) (row_of_name (told_by_standing_log m all s k) name).left)

told_log : (o : Outcome) (t : Telling) (m : Node) (all : Log) (letters : List Letter) → CoreKeepsEndOf all m.core → m.core.base ≤ m.core.acc
    → letters_with_told o t (node_with_log m all) letters ≡ letters_with_told o t m letters
told_log o tell.Nothing m all letters s low = refl
told_log o (tell.Note to what) m all letters s low = ap (λ (p : Packet). with_letter to p letters) (note_same what m all s)
told_log o (tell.AckIn v to) m all letters s low = λ k. if stamps_are_equal (told_by_standing_log m all s k).view v then with_letter (set_of_one_name to) (ack_same m all s k) letters
    else letters
told_log o (tell.Entries to stored pieces) m all letters s low = refl
told_log o (tell.Own to letter) m all letters s low = refl
told_log o tell.Departs m all letters s low = refl
told_log o tell.View m all letters s low = and_view_on_whole_log m all letters s
told_log o (tell.Welcome number to) m all letters s low = λ k. if nat_le number m.core.acc then with_letter (set_of_one_name to) (welcome_same m to all s k) letters
    else letters
told_log o (tell.Gone to) m all letters s low = λ k. if goes_same m to all s low k
    then with_letter (set_of_one_name to) (packet.Gone m.core.who m.core.promise (row_of_name (told_by_standing_log m all s k) to).left) letters else letters
told_log o (tell.Ballot true) m all letters s low = result_same o m all (letters_with_fetch o (node_with_log m all) letters) s
    ∙ ap (letters_with_result o m) (asks_same o m all letters s)
told_log o (tell.Ballot false) m all letters s low = result_same o m all letters s

answer_log : (a : StepAnswer) (m : Node) (all : Log) → CoreKeepsEndOf all m.core → m.core.base ≤ m.core.acc → outcome_of_answer a (node_with_log m all) ≡ outcome_of_answer a m
answer_log (answer.Is outcome) m all s low = refl
answer_log (answer.Advanced since) m all s low = refl
answer_log (answer.Accepted since) m all s low = refl
answer_log (answer.LetGo to number) m all s low = λ k. if goes_same m to all s low k then said.LetGo number else said.Again

-- a send goes out with the values that a core has beside its list
report_log : (m : Node) (all : Log) → CoreKeepsEndOf all m.core → own_report_of (node_with_log m all) ≡ own_report_of m
report_log m all s = ap (λ (t : ℕ). let r : Report = record { stored = t; taken = m.core.taken } in r) (top_of_standing_log m all s)

own_log : (to : List ℕ) (letter : OwnLetter) (send : Option (ℕ × List ℕ)) (m : Node) (all : Log) → CoreKeepsEndOf all m.core
    → own_letters to letter send (node_with_log m all) ≡ own_letters to letter send m
own_log to letter None m all s = refl
own_log to own_letter.Request (Some send) m all s =
    ap (λ (r : Report). with_letter to (packet.Request m.core.who m.core.promise r send.0 send.1) []) (report_log m all s)
own_log to own_letter.Spread (Some send) m all s =
    ap (λ (r : Report). with_letter to (packet.Spread m.core.who m.core.promise r send.0 send.1) []) (report_log m all s)
own_log to (own_letter.Bcast number) (Some send) m all s = refl

early_log : (old : Node) (t : Telling) (m : Node) (all : Log) → CoreKeepsEndOf all m.core → letters_before_end old t (node_with_log m all) ≡ letters_before_end old t m
early_log old (tell.Entries to stored true) m all s = refl
early_log old (tell.Entries to stored false) m all s = refl
early_log old (tell.Own to letter) m all s = own_log to letter (request_and_body_of_waiting_send old.sends) m all s
early_log old _ m all s = refl

letters_log : (r : Reply) (old m : Node) (all : Log) → CoreKeepsEndOf all m.core → m.core.base ≤ m.core.acc → reply_letters r old (node_with_log m all) ≡ reply_letters r old m
letters_log r old m all s low =
    let o = outcome_of_answer r.answer m in
    let w = node_with_log m all in
    let was = letters_before_end old r.first m in
    ap (λ a. letters_with_told a r.second w (letters_with_told a r.first w (letters_before_end old r.first w))) (answer_log r.answer m all s low)
    ∙ ap (λ ls. letters_with_told o r.second w (letters_with_told o r.first w ls)) (early_log old r.first m all s)
    ∙ told_log o r.second m all (letters_with_told o r.first w was) s low
    ∙ ap (letters_with_told o r.second m) (told_log o r.first m all was s low)

-- the node's base isn't above what is accepted
accepted_low : (m : Node) → CoreFrontsAreInOrder m.core → m.core.base ≤ m.core.acc
accepted_low m order =
    let taken = order.let_go in
    let given = order.given in
    omega arith

answer_end : (a : StepAnswer) (all m : Node) → IsEndOf all m → CoreFrontsAreInOrder m.core → outcome_of_answer a all ≡ outcome_of_answer a m
answer_end a all m e order = ap (outcome_of_answer a) (sym e.same) ∙ answer_log a m all.core.log e.stands (accepted_low m order)

letters_end : (r : Reply) (old all m : Node) → IsEndOf all m → CoreFrontsAreInOrder m.core → reply_letters r old all ≡ reply_letters r old m
letters_end r old all m e order = ap (reply_letters r old) (sym e.same) ∙ letters_log r old m all.core.log e.stands (accepted_low m order)

-- ---- the end of the step

-- a node that stays
stays_end : (m : Node) (p : Plan) (r : Reply) (old new : Node) (o : Outcome) (letters sent : List Letter) → IsEndOf p.node old → p.departs ≡ false
    → CoreFrontsAreInOrder new.core → Replied p r old → ChangesAllAlike refresh_at_end old new → o ≡ outcome_of_answer r.answer new → letters ≡ reply_letters r old new
    → TellsAlike (letters_with_accept_front m.core.acc r.polls r.numbers letters) new sent → ends.StepComesTo (finish m p) o sent new
unfolding finish
stays_end m p r old new o letters sent is stays order replied end answers are tells =
    let e = end p.node is in
    let n = refresh_at_end p.node in
    let same : letters ≡ p.letters n = are ∙ sym (letters_end r old n new e order) ∙ sym replied.letters in
    record {
      node = rw stays e;
      answer = answers ∙ sym (answer_end r.answer n new e order) ∙ sym replied.answer;
      sent = tells n e ∙ (λ k. letters_with_accept_front m.core.acc (sym replied.polls k) (sym replied.numbers k) (same k) n);
    }

-- ---- the last member departs

told_departed : (o : Outcome) (t : Telling) (n : Node) (letters : List Letter) → MayBeLastTold t → letters_with_told o t (departed_node n) letters ≡ letters_with_told o t n letters
told_departed o tell.Nothing n letters last = refl
told_departed o tell.View n letters last = refl
told_departed o _ n letters last = absurd last

answer_departed : (a : StepAnswer) (n : Node) → outcome_of_answer a (departed_node n) ≡ outcome_of_answer a n
answer_departed (answer.Is outcome) n = refl
answer_departed (answer.Advanced since) n = refl
answer_departed (answer.Accepted since) n = refl
answer_departed (answer.LetGo to number) n = refl

none_told : (p : Plan) (m n : Node) (letters : List Letter) → size (other_members n) ≡ 0 → letters_with_accept m p n letters ≡ letters
none_told p m n letters alone =
    let test : (size (other_members n) == 0) ≡ true = grind (arith, nat_tests) in
    by_test (sends_accept m p n) (rw test refl)
  where
    by_test : (b : Bool) → with_letter (other_members n) (accept_packet_of n p.polls) letters ≡ letters
        → (if b then with_letter (other_members n) (accept_packet_of n p.polls) letters else letters) ≡ letters
    by_test true is = is
    by_test false is = refl

-- it tells the others nothing, since there is nobody
leaves_end : (m : Node) (p : Plan) (r : Reply) (old new : Node) (o : Outcome) (letters sent : List Letter) → r.first ≡ tell.Departs
    → LastMemberLeaves p r old → Replied p r old → CoreFrontsAreInOrder new.core → IsEndOf (departed_node (refresh_at_end (push_entry old (Leave old.core.who)))) new
    → size (other_members (refresh_at_end (push_entry old (Leave old.core.who)))) ≡ 0 → o ≡ outcome_of_answer r.answer new → letters ≡ reply_letters r old new
    → TellsAlike (letters_with_accept_front m.core.acc r.polls r.numbers letters) new sent → ends.StepComesTo (finish m p) o sent new
unfolding finish
leaves_end m p r old new o letters sent first leaves replied order end alone answers are tells =
    let n = refresh_at_end p.node in
    let is : refresh_at_end (push_entry old (Leave old.core.who)) ≡ n = ap refresh_at_end (sym leaves.node) in
    let e : IsEndOf (departed_node n) new = subst (λ (x : Node). IsEndOf (departed_node x) new) is end in
    let none : size (other_members n) ≡ 0 = ap (λ (x : Node). size (other_members x)) (sym is) ∙ alone in
    let answer = outcome_of_answer r.answer n in
    let late : reply_letters r old (departed_node n) ≡ reply_letters r old n = ap
    (λ a. letters_with_told a r.second (departed_node n) (letters_with_told a r.first (departed_node n) (letters_before_end old r.first (departed_node n)))) (answer_departed r.answer n)
    ∙ told_departed answer r.second n (letters_with_told answer r.first (departed_node n) (letters_before_end old r.first (departed_node n))) leaves.last
    ∙ ap (letters_with_told answer r.second n) (first_departed answer r.first n first) in
    record {
      node = rw leaves.departs e;
      answer = answers ∙ sym (answer_end r.answer (departed_node n) new e order) ∙ answer_departed r.answer n ∙ sym replied.answer;
      sent = tells (departed_node n) e ∙ are ∙ sym (letters_end r old (departed_node n) new e order) ∙ late ∙ sym replied.letters
          ∙ sym (none_told p m n (p.letters n) none);
    }
  where
    first_departed : (o : Outcome) (t : Telling) (n : Node) → t ≡ tell.Departs
        → letters_with_told o t (departed_node n) (letters_before_end old t (departed_node n)) ≡ letters_with_told o t n (letters_before_end old t n)
    first_departed o t n is = ap (λ x. letters_with_told o x (departed_node n) (letters_before_end old x (departed_node n))) is
        ∙ ap (λ x. letters_with_told o x n (letters_before_end old x n)) (sym is)

-- ---- a reply

departs_first : (t : Telling) → is_departure t ≡ true → t ≡ tell.Departs
departs_first tell.Departs is = refl
departs_first _ is = absurd (cc)

said_end : (m : Node) (p : Plan) (r : Reply) (old new : Node) (o : Outcome) (letters sent : List Letter) (last : Bool) → is_departure r.first ≡ last
    → old.core.base ≡ old.core.log.start → PlanReaches last p r old → Replied p r old → CoreFrontsAreInOrder new.core → EndsOrDeparts last old new
    → o ≡ outcome_of_answer r.answer new → letters ≡ reply_letters r old new → TellsAlike (letters_with_accept_front m.core.acc r.polls r.numbers letters) new sent
    → ends.StepComesTo (finish m p) o sent new
said_end m p r old new o letters sent false is kept reaches replied order ended answers are tells =
    stays_end m p r old new o letters sent (reaches.0 kept) reaches.1 order replied ended answers are tells
said_end m p r old new o letters sent true is kept reaches replied order ended answers are tells =
    leaves_end m p r old new o letters sent (departs_first r.first is) reaches replied order ended.0 ended.1 answers are tells

pub reply_comes_to_finished_step : (m : Node) (p : Plan) (r : Reply) (old new : Node) (o : Outcome) (letters sent : List Letter) → old.core.base ≡ old.core.log.start
    → CoreFrontsAreInOrder new.core → Replies p r old → EndsOrDeparts (is_departure r.first) old new → o ≡ outcome_of_answer r.answer new → letters ≡ reply_letters r old new
    → TellsAlike (letters_with_accept_front m.core.acc r.polls r.numbers letters) new sent → ends.StepComesTo (finish m p) o sent new
reply_comes_to_finished_step m p r old new o letters sent kept order replies ended answers are tells =
    step_comes_to_whole_node (finish m p) (finish m replies.plan) o sent new (replies.same m)
    (said_end m replies.plan r old new o letters sent (is_departure r.first) refl kept replies.says.node replies.says.tells order ended answers are tells)

-- ---- plans that come to the same

pub step_is_alike_itself : (s : StepResult) → StepsAlike s s
step_is_alike_itself s = record { answer = refl; sent = refl; node = λ n e. e }

then_same : (s t u : StepResult) → StepsAlike s t → StepsAlike t u → StepsAlike s u
then_same s t u a b = record { answer = a.answer ∙ b.answer; sent = a.sent ∙ b.sent; node = λ n e. a.node n (b.node n e) }

-- what the end of a node replies, the node does
pub reply_on_whole_log : (rest : Node → Plan) (x mid new : Node) (r : Reply) → IsEndOf x mid → CoreFrontsAreInOrder mid.core
    → ((all : Log) → KeepsEndOfLog all mid → PlansAreAlike (rest (node_with_log mid all)) (rest mid)) → Replies (rest mid) r new → Replies (rest x) r new
reply_on_whole_log rest x mid new r end order alike replies =
    let whole = rest (node_with_log mid x.core.log) in
    let same : (m : Node) → StepsAlike (finish m whole) (finish m (rest mid)) = λ m.
    finish_of_alike_plans m.core.log m whole (rest mid) (alike x.core.log (end_of_node_keeps_log x mid end order)) in
    subst (λ (y : Node). Replies (rest y) r new) end.same (record {
      plan = replies.plan;
      same = λ m. then_same (finish m whole) (finish m (rest mid)) (finish m replies.plan) (same m) (replies.same m);
      says = replies.says;
    })

-- ---- replies

pub reply_without_departure : (p : Plan) (r : Reply) (n : Node) → is_departure r.first ≡ false → Ends p.node n → p.departs ≡ false → Replied p r n → Replies p r n
reply_without_departure p r n stays end departs replied = record {
  plan = p;
  same = λ m. step_is_alike_itself (finish m p);
  says = record { node = subst (λ b. PlanReaches b p r n) (sym stays) (end, departs); tells = replied };
}

pub reply_says_and_tells : (m n : Node) (o : Outcome) (t : Telling) → is_departure t ≡ false → StandsAtEnd t n → MayBeTold o t → Ends m n
    → Replies (record (plan_without_letters m o) { letters = λ x. letters_with_told o t x (letters_before_end n t x) }) (reply_with_telling o t) n
reply_says_and_tells m n o t stays there may e = reply_without_departure _ _ n stays e refl (record {
  answer = refl;
  letters = refl;
  polls = refl;
  numbers = refl;
  may = record { there = there; first = λ x. may; second = λ x. tt };
})

pub reply_quiet_with_outcome : (m n : Node) (o : Outcome) → Ends m n → Replies (plan_without_letters m o) (reply_without_letters o) n
reply_quiet_with_outcome m n o e = reply_says_and_tells m n o tell.Nothing refl tt tt e

pub reply_polls_with_outcome : (m n : Node) (o : Outcome) → Ends m n → Replies (plan_with_poll m o) (reply_with_poll o) n
reply_polls_with_outcome m n o e = reply_without_departure _ _ n refl e refl (record {
  answer = refl;
  letters = refl;
  polls = refl;
  numbers = refl;
  may = record { there = tt; first = λ x. tt; second = λ x. tt };
})

-- a packet to names
pub reply_tells_one_note : (m n : Node) (o : Outcome) (to : List ℕ) (what : Note) → IsNoteWithin what → Ends m n
    → Replies (plan_with_letter m o to (packet_of what)) (reply_with_telling o (tell.Note to what)) n
reply_tells_one_note m n o to what within e = reply_says_and_tells m n o (tell.Note to what) refl tt within e

-- the send of the node's own that waits, in a letter that tells neither its number nor its sender
pub reply_sends_own_letter : (m : Node) (o : Outcome) (to : List ℕ) (letter : OwnLetter) (send : ℕ × List ℕ) → request_and_body_of_waiting_send m.sends ≡ Some send → IsOwnWithin letter
    → Replies (plan_with_letter m o to (own_packet letter send)) (reply_with_telling o (tell.Own to letter)) m
reply_sends_own_letter m o to letter send waits within =
    reply_without_departure _ _ m refl (untrimmed_node_ends_itself m) refl (record {
      answer = refl;
      letters = sym (ap (λ w. own_letters to letter w (refresh_at_end m)) waits);
      polls = refl;
      numbers = refl;
      may = record { there = within; first = λ x. tt; second = λ x. tt };
    })

-- and with its number
pub own_letter_of_numbered_data : (m : Node) (to : List ℕ) (number : ℕ) (send : ℕ × List ℕ) → request_and_body_of_waiting_send m.sends ≡ Some send
    → letters_before_end m (tell.Own to (own_letter.Bcast number)) (refresh_at_end m)
    ≡ with_letter to (bcast_packet_of (refresh_at_end m) number (Data m.core.who send.0 send.1)) []
own_letter_of_numbered_data m to number send waits =
    let n = refresh_at_end m in
    ap (λ w. own_letters to (own_letter.Bcast number) w n) waits
    ∙ ap (λ who. with_letter to (bcast_packet_of n number (Data who send.0 send.1)) []) (refresh_at_end_keeps_name m)

pub reply_asks_names_and_fetches : (v : BallotVerdict) (n : Node) (o : Outcome) (to set : List ℕ) → VerdictComesTo v o n → IsTold o → set ≡ to
    → Replies (plan_of_verdict v (λ x. letters_with_fetch v.outcome x (with_letter to (invite_packet_of x) []))) (reply_asking_names o set true) n
reply_asks_names_and_fetches v n o to set c told is =
    let x = refresh_at_end v.node in
    reply_without_departure _ _ n refl (λ kept. c.node) refl (record {
      answer = c.answer;
      letters = λ k. letters_with_result (c.answer k) x (letters_with_fetch (c.answer k) x (with_letter (sym is k) (invite_packet_of x) []));
      polls = refl;
      numbers = refl;
      may = record { there = tt; first = λ y. tt; second = λ y. told };
    })

pub reply_asks_names_of_ballot : (v : BallotVerdict) (n : Node) (o : Outcome) (to set : List ℕ) → VerdictComesTo v o n → IsTold o → set ≡ to
    → Replies (plan_of_verdict v (λ x. with_letter to (invite_packet_of x) [])) (reply_asking_names o set false) n
reply_asks_names_of_ballot v n o to set c told is =
    let x = refresh_at_end v.node in
    reply_without_departure _ _ n refl (λ kept. c.node) refl (record {
      answer = c.answer;
      letters = λ k. letters_with_result (c.answer k) x (with_letter (sym is k) (invite_packet_of x) []);
      polls = refl;
      numbers = refl;
      may = record { there = tt; first = λ y. tt; second = λ y. told };
    })

-- nobody is invited
pub reply_fetches_and_asks_nobody : (v : BallotVerdict) (n : Node) (o : Outcome) (set : List ℕ) → VerdictComesTo v o n → IsTold o → set ≡ empty_set_of_names
    → Replies (plan_of_verdict v (λ x. letters_with_fetch v.outcome x [])) (reply_asking_names o set true) n
reply_fetches_and_asks_nobody v n o set c told is = reply_asks_names_and_fetches v n o empty_set_of_names set c told is

pub reply_asks_nobody : (v : BallotVerdict) (n : Node) (o : Outcome) (set : List ℕ) → VerdictComesTo v o n → IsTold o → set ≡ empty_set_of_names
    → Replies (plan_of_verdict v (λ x. [])) (reply_asking_names o set false) n
reply_asks_nobody v n o set c told is = reply_asks_names_of_ballot v n o empty_set_of_names set c told is

-- the same plan, and the same reply
pub reply_of_equal_plan : (p q : Plan) (r : Reply) (n : Node) → p ≡ q → Replies q r n → Replies p r n
reply_of_equal_plan p q r n e is = subst (λ (x : Plan). Replies x r n) (sym e) is

pub equal_reply_of_plan : (p : Plan) (r s : Reply) (n : Node) → r ≡ s → Replies p s n → Replies p r n
equal_reply_of_plan p r s n e is = subst (λ (x : Reply). Replies p x n) (sym e) is

pub equal_reply_of_equal_plan : {p q : Plan} {r s : Reply} {n : Node} → p ≡ q → r ≡ s → Replies q s n → Replies p r n
equal_reply_of_equal_plan {p} {q} {r} {s} {n} plan reply is = reply_of_equal_plan p q r n plan (equal_reply_of_plan q r s n reply is)

-- a node that is the plan's
pub node_ends_as_itself : (m n : Node) → n ≡ m → Ends m n
node_ends_as_itself m n is = λ kept. subst (λ (x : Node). IsEndOf x n) is (untrimmed_node_ends_itself n kept)
