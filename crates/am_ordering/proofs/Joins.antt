-- The row of a request to join, by what its tests say.
use Rattle.am_ordering.proofs.JoiningWords.{◌≡◌, ◌≢◌, ℕ, ◌+◌, true, false, not, ◌&&◌, ◌||◌, ◌==◌, nat_lt, if◌then◌else◌, Option, Some, None, refl, sym, ap}
use Rattle.am_ordering.proofs.JoiningWords.{◌∙◌, arith, nat_tests, Row, Report, Outcome, Join, life_of_name, row_at_place, fits, split_on_bool_of_log, reports_with_joiner, subst}
use Rattle.am_ordering.proofs.JoiningWords.{Node, top, image_of_node, other_members, set_of_one_name, has_room, Plan, push_entry, plan_without_letters, plan_with_letter, plan_with_poll, welcome_packet_of, reply_of_numbered_entry}
use Rattle.am_ordering.proofs.JoiningWords.{answer_join_ask, number_join_and_welcome, join_ask_row, NodeKeeps, steady_node_keeps_order, Replies, equal_reply_of_equal_plan, reply_without_departure, node_ends_as_itself, refusal_of, needs_none}
use Rattle.am_ordering.proofs.JoiningWords.{welcome_again}
use Rattle.am_base.specs.Limits.{NumberIsInRange, EntryIsInRange}
use Rattle.am_model.specs.Joining as joining
use Rattle.am_base.specs.declared.outcome.Outcome.TheVariants as said
use Rattle.am_node_parts.specs.declared.reply.Telling.TheVariants as tell

-- ---- the reports of a joiner

pub node_keeps_by_admitted_report : (m : Node) (name base : ℕ) → name ≢ m.core.who → NodeKeeps m → NodeKeeps (record m { reports = reports_with_joiner m.reports name base })
node_keeps_by_admitted_report m name base other keeps =
    let test : (m.core.who == name) ≡ false = grind (arith, nat_tests) in
    let same : reports_with_joiner m.reports name base m.core.who ≡ m.reports m.core.who = rw test refl in
    let taken = ap (λ (r : Report). r.taken) same in
    steady_node_keeps_order m (record m { reports = reports_with_joiner m.reports name base })
    (record { who = refl; promise = refl; told = refl; top = refl; status = refl; ballot = refl; leaving = refl; sends = refl }) keeps (let own =
    keeps.own in omega arith)

-- ---- the row

-- the rest of the row, where the name isn't turned down
abbrev rest : Node → ℕ → Row → Plan
rest m s q =
    if fits (image_of_node m) (Join s) && not (has_room m) then plan_with_poll m (said.Held m.core.base (top m))
    else if fits (image_of_node m) (Join s) then number_join_and_welcome m s
    else welcome_again m s q.joined

abbrev by_answer : Option Outcome → Node → Plan → Plan
by_answer None m p = p
by_answer (Some o) m p = plan_without_letters m o

asks_by : (m : Node) (s : ℕ) (q : Row) → answer_join_ask m s q ≡ by_answer (refusal_of m.core.acc s q) m (rest m s q)
asks_by m s q = split_on_bool_of_log (nat_lt (life_of_name s) q.life)
    (λ t. rw t refl)
    (λ f. rw f (split_on_bool_of_log ((q.life == life_of_name s) && nat_lt 0 q.left)
    (λ t. rw t refl)
    (λ f. rw f (split_on_bool_of_log (nat_lt q.life (life_of_name s) && (nat_lt 0 q.life && ((q.left == 0) || nat_lt m.core.acc q.left)))
    (λ t. rw t refl)
    (λ f. rw f refl)))))

pub join_ask_row_by_answer : (m : Node) (from accepted : ℕ) (r : Row) (answer : Option Outcome) → r ≡ row_at_place (image_of_node m) from → accepted ≡ m.core.acc
    → answer ≡ refusal_of accepted from r → join_ask_row m from ≡ by_answer answer m (rest m from r)
unfolding join_ask_row
join_ask_row_by_answer m from accepted r answer row acc is =
    asks_by m from (row_at_place (image_of_node m) from)
    ∙ ap (λ q. by_answer (refusal_of m.core.acc from q) m (rest m from q)) (sym row)
    ∙ ap (λ a. by_answer (refusal_of a from r) m (rest m from r)) (sym acc)
    ∙ ap (λ a. by_answer a m (rest m from r)) (sym is)

pub join_rest_welcomes_again : (m : Node) (from : ℕ) (r : Row) → fits (image_of_node m) (Join from) ≡ false → rest m from r ≡ welcome_again m from r.joined
join_rest_welcomes_again m from r fit = rw fit refl

pub join_rest_without_room : (m : Node) (from : ℕ) (r : Row) → fits (image_of_node m) (Join from) ≡ true → has_room m ≡ false
    → rest m from r ≡ plan_with_poll m (said.Held m.core.base (top m))
join_rest_without_room m from r fit room = rw (fit, room) refl

pub join_rest_numbers_join : (m : Node) (from : ℕ) (r : Row) → fits (image_of_node m) (Join from) ≡ true → has_room m ≡ true → rest m from r ≡ number_join_and_welcome m from
join_rest_numbers_join m from r fit room = rw (fit, room) refl

pub welcome_again_not_needed : (m : Node) (from joined : ℕ) → needs_none m from joined ≡ true → welcome_again m from joined ≡ plan_without_letters m said.Again
welcome_again_not_needed m from joined none = rw none refl

pub welcome_again_is_sent : (m : Node) (from joined : ℕ) → needs_none m from joined ≡ false
    → welcome_again m from joined ≡ plan_with_letter m (said.Welcomed joined) (set_of_one_name from) (λ n. welcome_packet_of n from)
welcome_again_is_sent m from joined due = rw due refl

-- a Join that is numbered
pub numbered_join_replies_welcome : (m mid : Node) (s number : ℕ) → mid ≡ push_entry (joining.node_with_joiner_reports m s) (Join s) → number ≡ top m + 1 → NumberIsInRange number → EntryIsInRange (Join s)
    → Replies (number_join_and_welcome m s) (record (reply_of_numbered_entry number (other_members m) (Join s)) { second = tell.Welcome number s }) mid
numbered_join_replies_welcome m mid s number node is number_within entry_within =
    equal_reply_of_equal_plan refl (ap (λ k. record (reply_of_numbered_entry k (other_members m) (Join s)) { second = tell.Welcome k s }) is) (reply_without_departure (number_join_and_welcome m s) _ mid refl (node_ends_as_itself (push_entry (joining.node_with_joiner_reports m s) (Join s)) mid node) refl (record {
      answer = refl;
      letters = refl;
      polls = refl;
      numbers = refl;
      may = record { there = tt; first = λ x. (subst NumberIsInRange is number_within, entry_within); second = λ x. tt };
    }))
