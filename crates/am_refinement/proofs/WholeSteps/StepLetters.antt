-- The letters of a step are so, once a voter has shown what they tell, and served what it sends of it.
use Rattle.am_refinement.proofs.WholeSteps.StepWords.{◌≡◌, ℕ, ◌≤◌, List, [], ◌∷◌, ◌++◌, sym, ◌∙◌, subst, append-nil, All, All-nil, All-cons, All-head, All-tail, Rules, Letter}
use Rattle.am_refinement.proofs.WholeSteps.StepWords.{Record, key_of_stamp, Group, IsThere, Node, lowest_name_or_zero, World, Cause, NameStands, FrontsStand, ViewsStand, LetterStampIsBegun, Grows}
use Rattle.am_refinement.proofs.WholeSteps.StepWords.{Moves, Reporting, Sender, LeaderStands, ShowsMore, GroupFor, moves_are_transitive, letters_stay_as_group_grows, trimmed_stays_as_letters_need, all_shown_stay_shown, group_goes_on_by_moves}
use Rattle.am_refinement.proofs.WholeSteps.StepWords.{group_grows_to_itself, group_growth_is_transitive, group_run_is_whole, sent_letters_say_so, none, Packet}
use Rattle.am_abstract_group.specs.Group as groups
use Rattle.am_step_laws.specs.Letters as letters

nothing_more : (v : World) → (rest : List Record) × (v.records ≡ v.records ++ rest)
nothing_more v = ([], sym (append-nil v.records))

-- ---- who sends, of a group in which more was shown

leader_more : (s t : Group) (i : ℕ) (n : Node) → ShowsMore s t → LeaderStands s i n → LeaderStands t i n
leader_more s t i n same h = assumption (
    subst (λ (f : ℕ → groups.ChainNode). Reporting f (f i).list n.core.base n.reports) (sym same.node) h.reports
    )

sender_more : (rules : Rules) (v : World) (i : ℕ) (c : Cause) (m n : Node) (s t : Group) → GroupFor rules t → ShowsMore s t → Grows s t → Sender v i c m n s
    → Sender v i c m n t
sender_more rules v i c m n s t group same g h = record {
  group = group_run_is_whole rules.founders (lowest_name_or_zero rules.founders) rules.resilience t group;
  stands = subst (λ (f : ℕ → groups.ChainNode). NameStands v i n (f i)) (sym same.node) h.stands;
  there = subst (λ (f : ℕ → groups.ChainNode). IsThere (f i)) (sym same.node) h.there;
  fronts = subst (λ (f : ℕ → groups.ChainNode). FrontsStand n (f i)) (sym same.node) h.fronts;
  views = subst (ViewsStand v) (sym same.views) h.views;
  noted = h.noted;
  who = h.who;
  small = h.small;
  begun = subst (λ (f : ℕ → groups.ChainNode). key_of_stamp n.core.promise ≤ key_of_stamp (f n.core.promise.by).promise) (sym same.node) h.begun;
  lives = h.lives;
  trimmed = trimmed_stays_as_letters_need v v s t g (nothing_more v) n.core.base h.trimmed;
  numbers = h.numbers;
  start = h.start;
  leader = λ t_. leader_more s t i n same (h.leader t_);
  ballots = record {
    blank = h.ballots.blank;
    own = h.ballots.own;
    fetches = λ b from want open_ answer.
        (let k = h.ballots.fetches b from want open_ answer in (k.0, all_shown_stay_shown v v s t g (nothing_more v) n.core.promise from k.1));
  };
  sends = h.sends;
  asked = λ from stored u is. (let k = h.asked from stored u is in
      (k.0, k.1, letters_stay_as_group_grows v v s t k.0 (Packet.Fetch from u stored) (nothing_more v) g k.2));
}

-- ---- one letter after another

pub record LettersToldByMoves (rules : Rules) (v : World) (all : List Letter) (s : Group) : Type 0 where
  pub to : Group
  pub path : Moves s to
  pub grows : Grows s to
  pub group : GroupFor rules to
  pub same : ShowsMore s to
  pub says : All (LetterStampIsBegun v to) all

same_then : (s t u : Group) → ShowsMore s t → ShowsMore t u → ShowsMore s u
same_then s t u a b = record { node = b.node ∙ a.node; views = b.views ∙ a.views; group_ = b.group_ ∙ a.group_ }

pub no_letters_told_without_move : (rules : Rules) (v : World) (s : Group) → GroupFor rules s → LettersToldByMoves rules v [] s
no_letters_told_without_move rules v s group = search (s, none, group_grows_to_itself s, group, All-nil (LetterStampIsBegun v s))

pub step_letters_told_by_moves : (rules : Rules) (v : World) (i : ℕ) (c : Cause) (m n : Node) (all : List Letter) (s : Group) → GroupFor rules s → Sender v i c m n s
    → All (letters.LetterSays m c n) all → LettersToldByMoves rules v all s
step_letters_told_by_moves rules v i c m n [] s group h says = no_letters_told_without_move rules v s group
step_letters_told_by_moves rules v i c m n (l ∷ ls) s group h says =
    let first = All-head (letters.LetterSays m c n) l ls says in
    let one = sent_letters_say_so v i c m n s l.to l.packet h first.says in
    let on = group_goes_on_by_moves rules.founders (lowest_name_or_zero rules.founders) rules.resilience s one.to group one.path in
    let next = sender_more rules v i c m n s one.to on.group_ one.is.same on.grows h in
    let rest = step_letters_told_by_moves rules v i c m n ls one.to on.group_ next (All-tail (letters.LetterSays m c n) l ls says) in
    record {
      to = rest.to;
      path = moves_are_transitive one.path rest.path;
      grows = group_growth_is_transitive s one.to rest.to on.grows rest.grows;
      group = rest.group;
      same = same_then s one.to rest.to one.is.same rest.same;
      says = All-cons (LetterStampIsBegun v rest.to) l ls (letters_stay_as_group_grows v v one.to rest.to l.to l.packet (nothing_more v) rest.grows one.is.says) rest.says;
    }
