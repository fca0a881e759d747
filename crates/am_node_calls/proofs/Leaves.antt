-- The rows of leaving, by what their tests say.
use Rattle.am_node_calls.proofs.Words.{◌≡◌, ◌≢◌, ℕ, ◌+◌, ◌<◌, ◌≤◌, List, [], ◌∷◌, true, false, ◌||◌, nat_lt, if◌then◌else◌, Bool, None, find, refl, sym, ◌∙◌, ap, arith}
use Rattle.am_node_calls.proofs.Words.{count_by, nat_tests, Leave, Outcome, size, split_on_bool_of_log, sum_by-cons, OwnSend, Status, Node, top, other_members, lowest_name_or_zero}
use Rattle.am_node_calls.proofs.Words.{waiting_send_of, node_unsettled_count, has_room, is_member, is_sequencer, push_entry, Plan, plan_without_letters, plan_with_letter, finish, plan_of_leaving, is_unfinished_ballot}
use Rattle.am_node_calls.proofs.Words.{begin_leaving, leave_row, leave_by_status, Replies, reply_with_telling, step_is_alike_itself}
use Rattle.am_base.specs.declared.outcome.Outcome.TheVariants as said
use Rattle.am_node_defs.specs.Sends as own
use Rattle.am_model.specs.Emit.{leave_ask_packet_of}
use Rattle.am_node_calls.specs.Forms.{handing}
use Rattle.am_model.specs.declared.status.Status.TheVariants as status
use Rattle.am_node_parts.specs.Replies.{LastMayDepart}
use Rattle.am_node_parts.specs.declared.reply.Telling.TheVariants as tell

-- ---- the rows

pub go_of_member_asks : (m : Node) (answer : Outcome) → is_sequencer m ≡ false → plan_of_leaving (plan_without_letters m answer) ≡ plan_with_letter m answer (other_members m) leave_ask_packet_of
go_of_member_asks m answer leads = rw leads refl

pub go_of_sequencer_hands_over : (m : Node) (answer : Outcome) → is_sequencer m ≡ true → 0 < size (other_members m)
    → plan_of_leaving (plan_without_letters m answer) ≡ handing (plan_without_letters m answer) (other_members m)
go_of_sequencer_hands_over m answer leads some =
    let test : nat_lt 0 (size (other_members m)) ≡ true = grind (arith, nat_tests) in
    rw (leads, test) refl

pub go_of_last_without_room : (m : Node) (answer : Outcome) → is_sequencer m ≡ true → size (other_members m) ≡ 0 → has_room m ≡ false
    → plan_of_leaving (plan_without_letters m answer) ≡ plan_without_letters m (said.Held m.core.base (top m))
go_of_last_without_room m answer leads none room =
    let test : nat_lt 0 (size (other_members m)) ≡ false = grind (arith, nat_tests) in
    rw (leads, test, room) refl

-- the last member is told of nobody, and departs
abbrev leaving_last : Node → Outcome → Plan
leaving_last m answer = record (plan_without_letters m answer) { node = push_entry m (Leave m.core.who); outcome = λ n. said.Departed; numbers = true; departs = true }

pub go_of_last_departs : (m : Node) (answer : Outcome) → is_sequencer m ≡ true → size (other_members m) ≡ 0 → has_room m ≡ true → plan_of_leaving (plan_without_letters m answer) ≡ leaving_last m answer
go_of_last_departs m answer leads none room =
    let test : nat_lt 0 (size (other_members m)) ≡ false = grind (arith, nat_tests) in
    rw (leads, test, room) refl

-- what is replied of it, and told after it: of nobody
pub departing_plan_replies : (m : Node) (answer : Outcome) → LastMayDepart m
    → Replies (leaving_last m answer) (record (reply_with_telling said.Departed tell.Departs) { numbers = true }) m
departing_plan_replies m answer may = record {
  plan = leaving_last m answer;
  same = λ x. step_is_alike_itself (finish x (leaving_last m answer));
  says = record {
    node = record { node = refl; departs = refl; last = tt };
    tells = record {
      answer = refl;
      letters = refl;
      polls = refl;
      numbers = refl;
      may = record { there = may; first = λ x. tt; second = λ x. tt };
    };
  };
}

-- whether there is somebody else
pub others_counted_are_some : (m : Node) {set : List ℕ} {count : ℕ} → count ≡ size set → set ≡ other_members m → 0 < count → 0 < size (other_members m)
others_counted_are_some m {set} {count} count_is set_is some = let is : count ≡ size (other_members m) = count_is ∙ ap (λ names. size names) set_is in omega arith

pub others_counted_are_none : (m : Node) {set : List ℕ} {count : ℕ} → count ≡ size set → set ≡ other_members m → count ≤ 0 → size (other_members m) ≡ 0
others_counted_are_none m {set} {count} count_is set_is none = let is : count ≡ size (other_members m) = count_is ∙ ap (λ names. size names) set_is in omega arith

pub leave_now_of_leaver : (m : Node) → m.leaving ≡ true → begin_leaving m ≡ plan_without_letters m said.Leaving
leave_now_of_leaver m is = rw is refl

pub leave_now_while_busy : (m : Node) (count : ℕ) → m.leaving ≡ false → (nat_lt 0 (node_unsettled_count m) || is_unfinished_ballot m.ballot) ≡ true → count ≡ node_unsettled_count m
    → begin_leaving m ≡ plan_without_letters m (said.Busy count)
leave_now_while_busy m count is busy counts = λ k. if is k then plan_without_letters m said.Leaving else if busy k then plan_without_letters m (said.Busy (sym counts k)) else plan_of_leaving
    (plan_without_letters (record m { leaving = true }) said.Asked)

pub leave_now_goes : (m : Node) → m.leaving ≡ false → (nat_lt 0 (node_unsettled_count m) || is_unfinished_ballot m.ballot) ≡ false
    → begin_leaving m ≡ plan_of_leaving (plan_without_letters (record m { leaving = true }) said.Asked)
leave_now_goes m is idle = rw (is, idle) refl

pub leave_row_by_status : (m : Node) (s : Status) → m.status ≡ s → leave_row m ≡ leave_by_status m s
unfolding leave_row
leave_row_by_status m s is = ap (leave_by_status m) is

pub leave_row_of_member : (m : Node) → is_member m.status ≡ true → leave_row m ≡ begin_leaving m
leave_row_of_member m member = leave_row_by_status m m.status refl ∙ by_status m.status member
  where
    by_status : (s : Status) → is_member s ≡ true → leave_by_status m s ≡ begin_leaving m
    by_status status.Member is = refl
    by_status _ is = absurd (cc)

pub leave_row_of_no_member : (m : Node) → is_member m.status ≡ false → m.status ≢ status.Departed → leave_row m ≡ plan_without_letters m said.NotMember
leave_row_of_no_member m outside stays = leave_row_by_status m m.status refl ∙ by_status m.status outside stays
  where
    by_status : (s : Status) → is_member s ≡ false → s ≢ status.Departed → leave_by_status m s ≡ plan_without_letters m said.NotMember
    by_status status.Stranger is other = refl
    by_status status.Asking is other = refl
    by_status status.Member is other = absurd (cc)
    by_status status.Departed is other = absurd (other refl)

-- where all are settled none waits
none_waits : (q : List OwnSend) → count_by own.is_unsettled q ≡ 0 → find own.is_unsettled q ≡ None
none_waits [] none = refl
none_waits (s ∷ ss) none =
    let more : count_by own.is_unsettled (s ∷ ss) ≡ (if own.is_unsettled s then 1 else 0) + count_by own.is_unsettled ss =
    sum_by-cons (λ (y : OwnSend). if own.is_unsettled y then 1 else 0) s ss in
    split_on_bool_of_log (own.is_unsettled s)
    (λ t. let one : count_by own.is_unsettled (s ∷ ss) ≡ 1 + count_by own.is_unsettled ss = more
    ∙ ap (λ (b : Bool). (if b then 1 else 0) + count_by own.is_unsettled ss) t in absurd (omega arith))
    (λ f. let rest : count_by own.is_unsettled (s ∷ ss) ≡ 0 + count_by own.is_unsettled ss = more
    ∙ ap (λ (b : Bool). (if b then 1 else 0) + count_by own.is_unsettled ss) f in rw f (none_waits ss (omega arith)))

pub idle_node_has_nothing_waiting : (m : Node) → (nat_lt 0 (node_unsettled_count m) || is_unfinished_ballot m.ballot) ≡ false → waiting_send_of m ≡ None
idle_node_has_nothing_waiting m idle = none_waits m.sends.queue (none_left (node_unsettled_count m) (is_unfinished_ballot m.ballot) idle)
  where
    none_left : (k : ℕ) (b : Bool) → (nat_lt 0 k || b) ≡ false → k ≡ 0
    none_left k b h = grind (arith, nat_tests)
