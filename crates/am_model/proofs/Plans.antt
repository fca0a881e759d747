-- Plans that are alike: the first comes to the node of the second with all of a list, and both say and send the same.
use Rattle.am_model.proofs.EndWords.{[], ◌≡◌, ℕ, Bool, true, false, not, ◌&&◌, ◌||◌, nat_lt, if◌then◌else◌, List, refl, sym, ◌∙◌, ap, subst, Entry, Outcome}
use Rattle.am_model.proofs.EndWords.{without_name, Log, log_image_at, members_of_image, row_of_name, log_with_entry, IsEndOfLog, Packet, Letter, with_letter, Departed, Node, image_of_node}
use Rattle.am_model.proofs.EndWords.{other_members, refresh_at_end, StepResult, Plan, plan_without_letters, plan_with_letter, plan_with_poll, with_one_more_letter, with_letter_where, plan_numbering_entry, request_packet_of, spread_packet_of}
use Rattle.am_model.proofs.EndWords.{ack_packet_of, nack_packet_of, hold_packet_of, welcome_packet_of, leave_ask_packet_of, fetch_packet_of, letters_with_accept, finish, vote_packet_of, node_with_log, IsEndOf, StepComesTo}
use Rattle.am_model.proofs.EndWords.{StepsAlike, FrontsAreOrdered}
use Rattle.am_packet.specs.declared.packet.Packet.TheVariants as packet
use Rattle.am_model.proofs.Nodes.{KeepsEndOfLog, IsNodeWithWholeLog, reading_on_whole_log, end_of_end_is_end, base_image_on_whole_log, keeps_log_by_push, is_sequencer_on_whole_log, end_refresh_on_whole_log, keeps_log_by_end_refresh}

-- the first says of a node with all of a list what the second says of the node
abbrev pub SayTheSame : {X : Type 0} → (Node → X) → (Node → X) → Type 0
SayTheSame f g = (all : Log) (n : Node) → KeepsEndOfLog all n → f (node_with_log n all) ≡ g n

pub record PlansAreAlike (p q : Plan) : Type 0 where
  pub whole : IsNodeWithWholeLog p.node q.node
  pub open whole use *
  pub outcome : SayTheSame p.outcome q.outcome
  pub letters : SayTheSame p.letters q.letters
  pub polls : p.polls ≡ q.polls
  pub numbers : p.numbers ≡ q.numbers
  pub departs : p.departs ≡ q.departs

-- ---- packets

pub others_on_whole_log : (all : Log) (m : Node) → KeepsEndOfLog all m → other_members (node_with_log m all) ≡ other_members m
others_on_whole_log all m h = reading_on_whole_log all m (λ i t. without_name (members_of_image i) m.core.who) h

pub request_says_the_same : (req : ℕ) (body : List ℕ) → SayTheSame (λ n. request_packet_of n req body) (λ n. request_packet_of n req body)
request_says_the_same req body all n h = reading_on_whole_log all n (λ i t. packet.Request n.core.who n.core.promise (record { stored = t; taken = n.core.taken }) req body) h

pub spread_says_the_same : (req : ℕ) (body : List ℕ) → SayTheSame (λ n. spread_packet_of n req body) (λ n. spread_packet_of n req body)
spread_says_the_same req body all n h = reading_on_whole_log all n (λ i t. packet.Spread n.core.who n.core.promise (record { stored = t; taken = n.core.taken }) req body) h

pub ack_says_the_same : SayTheSame ack_packet_of ack_packet_of
ack_says_the_same all n h = reading_on_whole_log all n (λ i t. packet.Ack n.core.who n.core.promise (record { stored = t; taken = n.core.taken })) h

pub nack_says_the_same : SayTheSame nack_packet_of nack_packet_of
nack_says_the_same all n h = reading_on_whole_log all n (λ i t. packet.Nack n.core.who n.core.promise (record { stored = t; taken = n.core.taken })) h

pub leave_ask_says_the_same : SayTheSame leave_ask_packet_of leave_ask_packet_of
leave_ask_says_the_same all n h = reading_on_whole_log all n (λ i t. packet.LeaveAsk n.core.who n.core.promise (record { stored = t; taken = n.core.taken })) h

pub fetch_says_the_same : SayTheSame fetch_packet_of fetch_packet_of
fetch_says_the_same all n h = reading_on_whole_log all n (λ i t. packet.Fetch n.core.who n.core.promise t) h

pub hold_says_the_same : (req : ℕ) → SayTheSame (λ n. hold_packet_of n req) (λ n. hold_packet_of n req)
hold_says_the_same req all n h = reading_on_whole_log all n (λ i t. packet.Hold n.core.who n.core.promise n.core.base t req) h

pub welcome_says_the_same : (name : ℕ) → SayTheSame (λ n. welcome_packet_of n name) (λ n. welcome_packet_of n name)
welcome_says_the_same name all n h =
    reading_on_whole_log all n (λ i t. packet.Welcome n.core.who n.core.promise n.core.base (row_of_name i name).joined (log_image_at all n.core.base)) h
    ∙ ap (packet.Welcome n.core.who n.core.promise n.core.base (row_of_name (image_of_node n) name).joined) (base_image_on_whole_log all n h)

pub vote_says_the_same : SayTheSame vote_packet_of vote_packet_of
vote_says_the_same all n h = reading_on_whole_log all n
    (λ i t. packet.Vote n.core.who n.core.promise (record { view = i.view; top = t; taken = n.core.taken; members = members_of_image i })) h

-- ---- plans

-- by tests that say the same
pub same_test_branches_are_alike : (b c : Bool) (p q r s : Plan) → b ≡ c → (c ≡ true → PlansAreAlike p q) → (c ≡ false → PlansAreAlike r s) → PlansAreAlike (if b then p else r) (if c then q else s)
same_test_branches_are_alike true true p q r s e f g = f refl
same_test_branches_are_alike true false p q r s e f g = absurd (cc)
same_test_branches_are_alike false true p q r s e f g = absurd (cc)
same_test_branches_are_alike false false p q r s e f g = g refl

-- by one test
pub both_branches_are_alike : (b : Bool) (p q r s : Plan) → (b ≡ true → PlansAreAlike p q) → (b ≡ false → PlansAreAlike r s) → PlansAreAlike (if b then p else r) (if b then q else s)
both_branches_are_alike b p q r s f g = same_test_branches_are_alike b b p q r s refl f g

-- a plan that numbers nothing, of a node that stays
abbrev plan_of : Node → Bool → (Node → Outcome) → (Node → List Letter) → Plan
plan_of n polls answer letters = record { node = n; outcome = answer; letters = letters; polls = polls; numbers = false; departs = false }

alike_plan : (all : Log) (m : Node) (polls : Bool) (f g : Node → Outcome) (ls ks : Node → List Letter) → KeepsEndOfLog all m → SayTheSame f g → SayTheSame ls ks
    → PlansAreAlike (plan_of (node_with_log m all) polls f ls) (plan_of m polls g ks)
alike_plan all m polls f g ls ks h says sends = record {
  whole = record { log = all; keeps = h; node = refl };
  outcome = says;
  letters = sends;
  polls = refl;
  numbers = refl;
  departs = refl;
}

pub quiet_is_alike : (all : Log) (m : Node) (o w : Outcome) → KeepsEndOfLog all m → o ≡ w → PlansAreAlike (plan_without_letters (node_with_log m all) o) (plan_without_letters m w)
quiet_is_alike all m o w h e = alike_plan all m false (λ n. o) (λ n. w) (λ n. []) (λ n. []) h (λ a n k. e) (λ a n k. refl)

pub polling_is_alike : (all : Log) (m : Node) (o w : Outcome) → KeepsEndOfLog all m → o ≡ w → PlansAreAlike (plan_with_poll (node_with_log m all) o) (plan_with_poll m w)
polling_is_alike all m o w h e = alike_plan all m true (λ n. o) (λ n. w) (λ n. []) (λ n. []) h (λ a n k. e) (λ a n k. refl)

pub ruleset plan_alike_rules = (same_test_branches_are_alike, both_branches_are_alike, quiet_is_alike, polling_is_alike)

-- with an answer that the step tells
pub same_outcomes_are_alike : (all : Log) (m : Node) (o w : Outcome) (f g : Node → Outcome) → KeepsEndOfLog all m → SayTheSame f g
    → PlansAreAlike (record (plan_without_letters (node_with_log m all) o) { outcome = f }) (record (plan_without_letters m w) { outcome = g })
same_outcomes_are_alike all m o w f g h says = alike_plan all m false f g (λ n. []) (λ n. []) h says (λ a n k. refl)

-- with letters of its own
pub same_letters_are_alike : (all : Log) (m : Node) (o w : Outcome) (f g : Node → List Letter) → KeepsEndOfLog all m → o ≡ w → SayTheSame f g
    → PlansAreAlike (record (plan_without_letters (node_with_log m all) o) { letters = f }) (record (plan_without_letters m w) { letters = g })
same_letters_are_alike all m o w f g h e says = alike_plan all m false (λ n. o) (λ n. w) f g h (λ a n k. e) says

-- one letter more
more : (to at : List ℕ) (p q : Packet) (ls ks : List Letter) → to ≡ at → p ≡ q → ls ≡ ks → with_letter to p ls ≡ with_letter at q ks
more to at p q ls ks e f g = λ i. with_letter (e i) (f i) (g i)

pub telling_is_alike : (all : Log) (m : Node) (o w : Outcome) (to at : List ℕ) (p q : Node → Packet) → KeepsEndOfLog all m → o ≡ w → to ≡ at → SayTheSame p q
    → PlansAreAlike (plan_with_letter (node_with_log m all) o to p) (plan_with_letter m w at q)
telling_is_alike all m o w to at p q h e f says = search (alike_plan, more)

-- a plan with other letters, and the members are polled or not
pub replaced_letters_are_alike : (p q : Plan) (ls ks : Node → List Letter) (b c : Bool) → PlansAreAlike p q → SayTheSame ls ks → b ≡ c
    → PlansAreAlike (record p { letters = ls; polls = b }) (record q { letters = ks; polls = c })
replaced_letters_are_alike p q ls ks b c h says same = record {
  whole = h.whole;
  outcome = h.outcome;
  letters = says;
  polls = same;
  numbers = h.numbers;
  departs = h.departs;
}

pub and_telling_is_alike : (p q : Plan) (to at : List ℕ) (f g : Node → Packet) → PlansAreAlike p q → to ≡ at → SayTheSame f g → PlansAreAlike (with_one_more_letter p to f) (with_one_more_letter q at g)
and_telling_is_alike p q to at f g h e says = replaced_letters_are_alike p q (with_one_more_letter p to f).letters (with_one_more_letter q at g).letters p.polls q.polls h
    (λ a n k. more to at (f (node_with_log n a)) (g n) (p.letters (node_with_log n a)) (q.letters n) e (says a n k) (h.letters a n k)) h.polls

pub and_where_is_alike : (t u : Node → Bool) (p q : Plan) (to at : List ℕ) (f g : Node → Packet) → SayTheSame t u → PlansAreAlike p q → to ≡ at → SayTheSame f g
    → PlansAreAlike (with_letter_where t p to f) (with_letter_where u q at g)
and_where_is_alike t u p q to at f g tests h e says = replaced_letters_are_alike p q (with_letter_where t p to f).letters (with_letter_where u q at g).letters p.polls q.polls h
    (λ a n k i. if tests a n k i then with_letter (e i) (says a n k i) (h.letters a n k i) else h.letters a n k i) h.polls

pub numbering_is_alike : (all : Log) (m : Node) (e : Entry) (o w : Outcome) (p q : Node → Packet) → KeepsEndOfLog all m → o ≡ w → SayTheSame p q
    → PlansAreAlike (plan_numbering_entry (node_with_log m all) e o p) (plan_numbering_entry m e w q)
numbering_is_alike all m e o w p q h same says = record {
  whole = record { log = log_with_entry all e; keeps = keeps_log_by_push all m e h; node = refl };
  outcome = λ a n k. same;
  letters = λ a n k. more (other_members (node_with_log m all)) (other_members m) (p (node_with_log n a)) (q n) [] [] (others_on_whole_log all m h) (says a n k) refl;
  polls = refl;
  numbers = refl;
  departs = refl;
}

-- ---- a plan that is done

end_of : (all : Log) (n x : Node) → IsEndOfLog all n.core.log → IsEndOf n x → IsEndOf (node_with_log n all) x
end_of all n x is h = record {
  stands = record { base = h.stands.base; kept = end_of_end_is_end all n.core.log x.core.log is h.stands.kept };
  same = ap (λ y. node_with_log y all) h.same;
}

departed : Bool → Node → Node
departed d n = if d then record n { status = Departed } else n

departed_end : (d : Bool) (all : Log) (n : Node) → departed d (node_with_log n all) ≡ node_with_log (departed d n) all
unfolding departed
departed_end true all n = refl
departed_end false all n = refl

departed_log : (d : Bool) (all : Log) (n : Node) → IsEndOfLog all n.core.log → IsEndOfLog all (departed d n).core.log
unfolding departed
departed_log true all n h = h
departed_log false all n h = h

accept_alike : (all : Log) (m : Node) (p q : Plan) (a : Log) (n : Node) (ls ks : List Letter) → PlansAreAlike p q → KeepsEndOfLog a n → ls ≡ ks
    → letters_with_accept (node_with_log m all) p (node_with_log n a) ls ≡ letters_with_accept m q n ks
accept_alike all m p q a n ls ks h k e = λ i.
    if is_sequencer_on_whole_log a n k i && (h.polls i || (nat_lt m.core.acc n.core.acc && not (h.numbers i)))
    then with_letter (others_on_whole_log a n k i) (reading_on_whole_log a n (λ j t. packet.Accept n.core.who n.core.promise n.core.base n.core.acc t (h.polls i)) k i) (e i)
    else e i

departed_order : (d : Bool) (n : Node) → FrontsAreOrdered n.core → FrontsAreOrdered (departed d n).core
unfolding departed
departed_order true n h = h
departed_order false n h = h

pub finish_of_plan_is_ordered : (m : Node) (p q : Plan) → PlansAreAlike p q → FrontsAreOrdered (finish m q).node.core
unfolding finish departed
finish_of_plan_is_ordered m p q h = departed_order q.departs (refresh_at_end q.node) (keeps_log_by_end_refresh h.log q.node h.keeps).order

pub finish_of_alike_plans : (all : Log) (m : Node) (p q : Plan) → PlansAreAlike p q → StepsAlike (finish (node_with_log m all) p) (finish m q)
unfolding finish departed
finish_of_alike_plans all m p q h =
    let n = refresh_at_end q.node in
    let k = keeps_log_by_end_refresh h.log q.node h.keeps in
    let e : refresh_at_end p.node ≡ node_with_log n h.log = ap refresh_at_end h.node ∙ end_refresh_on_whole_log h.log q.node h.keeps in
    let same : departed p.departs (refresh_at_end p.node) ≡ node_with_log (departed q.departs n) h.log = (λ i. departed (h.departs i) (e i))
    ∙ departed_end q.departs h.log n in
    record {
      answer = ap p.outcome e ∙ h.outcome h.log n k;
      sent = ap (λ x. letters_with_accept (node_with_log m all) p x (p.letters x)) e ∙ accept_alike all m p q h.log n (p.letters (node_with_log n h.log))
          (q.letters n) h k (h.letters h.log n k);
      node = λ x end. subst (λ y. IsEndOf y x) (sym same) (end_of h.log (departed q.departs n) x (departed_log q.departs h.log n k.kept) end);
    }

-- what comes to the step of the end comes to that of the whole node
pub step_comes_to_whole_node : (s t : StepResult) (o : Outcome) (letters : List Letter) (n : Node) → StepsAlike s t → StepComesTo t o letters n → StepComesTo s o letters n
step_comes_to_whole_node s t o letters n same comes = record {
  node = same.node n comes.node;
  answer = comes.answer ∙ sym same.answer;
  sent = comes.sent ∙ sym same.sent;
}
