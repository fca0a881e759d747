-- At the start each founder is told of the first entry, and then the group stands for the world.
use Rattle.am_refinement.proofs.Words.{and-false, stamp_eq_of_itself, ◌≡◌, ℕ, zero, suc, ◌+◌, ◌<◌, ◌==◌, ◌&&◌, nat_lt, if◌then◌else◌, List, [], ◌∷◌, length, true}
use Rattle.am_refinement.proofs.Words.{false, Some, slice_get, refl, sym, ap, ◌∙◌, subst, arith, nat_tests, Entry, Rules, MayFound, has, image_after_entries, key_of_stamp, list_begins_itself}
use Rattle.am_refinement.proofs.Words.{Group, function_with_value, list_with_chosen_view, group_with_node, Node, founder, stranger_node, lowest_name_or_zero, founding_stamp, founders_entry, has_log_by_status}
use Rattle.am_refinement.proofs.Words.{has_departed, is_unfinished_ballot, Decided, first_node, founders_decided, whole, up_to_view, up_to_next, line_of, split_on_bool}
use Rattle.am_refinement.proofs.Words.{lowest_founder_founds, BeginsIn, NameStands, FrontsStand, NotedStands, ViewsStand, StartStands, none, moves, MovesLeadTo}
use Rattle.am_group_defs.specs.World.{start}
use Rattle.am_abstract_group.specs.Group as groups
use Rattle.am_abstract_group.specs.Moves as group
use Rattle.am_abstract_group.specs.Runs as begun
use Rattle.am_refinement.proofs.Ends.{moves_are_transitive}
use Rattle.std.proofs.lemmas.List.{same_from_push}

-- ---- each founder in turn

-- what a founder has once it is told of the first entry
abbrev told_of : groups.ChainNode → groups.ChainNode
told_of a = record a { told = 1; acc = 1 }

abbrev first_of : Rules → ℕ → groups.ChainNode
first_of rules = begun.chain_first_node rules.founders (lowest_name_or_zero rules.founders) rules.resilience

abbrev first_group : Rules → Group
first_group rules = begun.group_start rules.founders (lowest_name_or_zero rules.founders) rules.resilience

abbrev told_to : Rules → ℕ → ℕ → groups.ChainNode
told_to rules k i = if has rules.founders i && nat_lt i k then told_of (first_of rules i) else first_of rules i

-- names below a number are told, if they founded
record ToldTo (rules : Rules) (k : ℕ) (s : Group) : Type 0 where
  node : (i : ℕ) → s.node i ≡ told_to rules k i
  views : s.views ≡ (first_group rules).views
  group_ : s.group ≡ (first_group rules).group

told_none : (rules : Rules) → ToldTo rules 0 (first_group rules)
told_none rules = record {
  node = λ i. (let f : nat_lt i 0 ≡ false = grind (arith, nat_tests) in
      let g : (has rules.founders i && nat_lt i 0) ≡ false = ap (λ b. has rules.founders i && b) f ∙ and-false (has rules.founders i) in
      sym (ap (λ b. if b then told_of (first_of rules i) else first_of rules i) g));
  views = refl;
  group_ = refl;
}

-- a name that founds, before it is told
record Founds (rules : Rules) (s : Group) (k : ℕ) : Type 0 where
  is : s.node k ≡ first_of rules k
  list : (s.node k).list ≡ list_with_chosen_view (begun.first_choice rules.founders (lowest_name_or_zero rules.founders) rules.resilience)
  up : groups.IsUp (s.node k)
  promise : (s.node k).promise ≡ begun.first_stamp (lowest_name_or_zero rules.founders)
  told : (s.node k).told ≡ 0
  acc : (s.node k).acc ≡ 0

founds : (rules : Rules) (k : ℕ) (s : Group) → ToldTo rules k s → has rules.founders k ≡ true → Founds rules s k
founds rules k s h t =
    let f : nat_lt k k ≡ false = grind (arith, nat_tests) in
    let is : s.node k ≡ first_of rules k = h.node k ∙ ap (λ b. if has rules.founders k && b then told_of (first_of rules k) else first_of rules k) f
    ∙ ap (λ b. if b then told_of (first_of rules k) else first_of rules k) (and-false (has rules.founders k)) in
    record {
      is = is;
      list = ap (λ (a : groups.ChainNode). a.list) is ∙ rw t refl;
      up = record {
        log = ap (λ (a : groups.ChainNode). a.has_log) is
            ∙ t;
        there = record { goes = ap (λ (a : groups.ChainNode). a.stopped) is; stays = ap (λ (a : groups.ChainNode). a.departed) is };
      };
      promise = ap (λ (a : groups.ChainNode). a.promise) is ∙ rw t refl;
      told = ap (λ (a : groups.ChainNode). a.told) is;
      acc = ap (λ (a : groups.ChainNode). a.acc) is;
    }

same_but : (rules : Rules) (k i : ℕ) → (i == k) ≡ false → told_to rules k i ≡ told_to rules (k + 1) i
same_but rules k i f =
    let same : nat_lt i k ≡ nat_lt i (k + 1) = split_on_bool (nat_lt i k)
    (λ t. t ∙ sym (let z : nat_lt i (k + 1) ≡ true = grind (arith, nat_tests) in z))
    (λ g. g ∙ sym (let z : nat_lt i (k + 1) ≡ false = grind (arith, nat_tests) in z)) in
    ap (λ b. if has rules.founders i && b then told_of (first_of rules i) else first_of rules i) same

told_next : (rules : Rules) (k : ℕ) (s : Group) → ToldTo rules k s → MovesLeadTo (ToldTo rules (k + 1)) s
unfolding function_with_value
told_next rules k s h = split_on_bool (has rules.founders k)
    (λ t.
    let a = founds rules k s h t in
    let one : length s.group ≡ 1 = ap length h.group_ in
    let list_ : length (s.node k).list ≡ 1 = ap length a.list in
    let b = record (s.node k) { told = 1; acc = 1 } in
    record {
      to = group_with_node s k b;
      path = moves (group.learns k 1 1 a.up (omega arith) (omega arith)
          (λ x d above. absurd (let e : (x == key_of_stamp (begun.first_stamp (lowest_name_or_zero rules.founders))) ≡ true = ap (λ (v : groups.Views). v.decided x)
          (sym h.views) ∙ d in
          let same : key_of_stamp (s.node k).promise ≡ key_of_stamp (begun.first_stamp (lowest_name_or_zero rules.founders)) = ap key_of_stamp a.promise in
          let z : ⊥ = grind (arith, nat_tests) in z))
          (omega arith) (omega arith) (omega arith)) tt none;
      is = record {
        node = λ i. split_on_bool (i == k)
            (λ u. (let same : i ≡ k = grind (arith, nat_tests) in
            let below : nat_lt i (k + 1) ≡ true = grind (arith, nat_tests) in
            let founded : has rules.founders i ≡ true = ap (has rules.founders) same ∙ t in
            let now : told_to rules (k + 1) i ≡ told_of (first_of rules i) = rw (founded, below) refl in
            let mine : record (s.node k) { told = 1; acc = 1 } ≡ told_of (first_of rules i) = ap told_of a.is
            ∙ ap (λ j. told_of (first_of rules j)) (sym same) in
            ap (λ c. if c then b else s.node i) u ∙ mine ∙ sym now))
            (λ f. ap (λ c. if c then b else s.node i) f ∙ h.node i ∙ same_but rules k i f);
        views = h.views;
        group_ = h.group_;
      };
    })
    (λ g. record {
      to = s;
      path = none;
      is = record {
        node = λ i. split_on_bool (i == k)
            (λ u. (let same : i ≡ k = grind (arith, nat_tests) in
            let out : has rules.founders i ≡ false = ap (has rules.founders) same ∙ g in
            let before : told_to rules k i ≡ first_of rules i = ap (λ c. if c && nat_lt i k then told_of (first_of rules i) else first_of rules i) out in
            let now : told_to rules (k + 1) i ≡ first_of rules i = ap (λ c. if c && nat_lt i (k + 1) then told_of
            (first_of rules i) else first_of rules i) out in
            h.node i ∙ before ∙ sym now))
            (λ f. h.node i ∙ same_but rules k i f);
        views = h.views;
        group_ = h.group_;
      };
    })

told_all_to : (rules : Rules) (k : ℕ) → MovesLeadTo (ToldTo rules k) (first_group rules)
told_all_to rules zero = record { to = first_group rules; path = none; is = told_none rules }
told_all_to rules (suc k) =
    let before = told_all_to rules k in
    let next = told_next rules k before.to before.is in
    let same : k + 1 ≡ suc k = omega arith in
    record { to = next.to; path = moves_are_transitive before.path next.path; is = subst (λ n. ToldTo rules n next.to) same next.is }

-- ---- what stands then

-- a name of the group that has what a node has
abbrev name_of : Node → List Entry → ℕ → groups.ChainNode
name_of x list first = record {
  list = list;
  has_log = has_log_by_status x.status;
  stopped = false;
  departed = has_departed x.status;
  leaving = x.leaving;
  start = first;
  promise = x.core.promise;
  told = x.core.told;
  acc = x.core.acc;
  ballot = is_unfinished_ballot x.ballot;
}

abbrev founder_of : Rules → groups.ChainNode
founder_of rules = name_of (founder rules 0) (list_with_chosen_view (begun.first_choice rules.founders (lowest_name_or_zero rules.founders) rules.resilience)) 1

abbrev stranger_of : Rules → groups.ChainNode
stranger_of rules = name_of (stranger_node rules 0) [] 1

name_starts : (rules : Rules) (i : ℕ) (x : Node) (list : List Entry) (first : ℕ) → BeginsIn (start rules) x.core.log → list ≡ whole (start rules) x
    → (has_log_by_status x.status ≡ true → first ≡ x.core.start) → NameStands (start rules) i x (name_of x list first)
name_starts rules i x list first begins is at = assumption (is)

founder_name : (rules : Rules) (i : ℕ) → NameStands (start rules) i (founder rules i) (founder_of rules)
unfolding image_after_entries
founder_name rules i = name_starts rules i (founder rules i) (founder_of rules).list 1 (record { within = omega arith; image = refl }) refl (λ t. refl)

stranger_name : (rules : Rules) (i : ℕ) → NameStands (start rules) i (stranger_node rules i) (stranger_of rules)
unfolding image_after_entries
stranger_name rules i = name_starts rules i (stranger_node rules i) [] 1 (record { within = omega arith; image = refl }) refl (λ t. absurd (cc))

-- what has stood up to then
told_founder : (rules : Rules) (i : ℕ) → i < 256 → has rules.founders i ≡ true → told_to rules 256 i ≡ founder_of rules
told_founder rules i few t = let low : nat_lt i 256 ≡ true = grind (arith, nat_tests) in rw (t, low) refl

told_stranger : (rules : Rules) (i : ℕ) → has rules.founders i ≡ false → told_to rules 256 i ≡ stranger_of rules
told_stranger rules i f = rw f refl

start_name : (rules : Rules) (s : Group) → ToldTo rules 256 s → (i : ℕ) → i < 256 → NameStands (start rules) i (first_node rules i) (s.node i)
start_name rules s h i few = split_on_bool (has rules.founders i)
    (λ t. subst (NameStands (start rules) i (first_node rules i)) (sym (h.node i ∙ told_founder rules i few t)) (rw t (founder_name rules i)))
    (λ f. subst (NameStands (start rules) i (first_node rules i)) (sym (h.node i ∙ told_stranger rules i f)) (rw f (stranger_name rules i)))

start_fronts : (rules : Rules) (s : Group) → ToldTo rules 256 s → (i : ℕ) → i < 256 → FrontsStand (first_node rules i) (s.node i)
start_fronts rules s h i few = split_on_bool (has rules.founders i)
    (λ t. subst (FrontsStand (first_node rules i)) (sym (h.node i ∙ told_founder rules i few t)) (rw t (record { told = omega arith; acc = refl })))
    (λ f. subst (FrontsStand (first_node rules i)) (sym (h.node i ∙ told_stranger rules i f)) (rw f (record { told = omega arith; acc = refl })))

-- the founders' view
first_line : (rules : Rules) → MayFound rules → line_of (start rules) (founding_stamp rules) ≡ founders_entry rules ∷ []
unfolding up_to_next up_to_view
first_line rules may =
    let f = (lowest_founder_founds rules may).founds in
    let t = stamp_eq_of_itself (founding_stamp rules) in
    rw f (rw t refl)

start_views : (rules : Rules) → MayFound rules → ViewsStand (start rules) (first_group rules).views
start_views rules may =
    let x = key_of_stamp (founding_stamp rules) in
    let itself : (x == x) ≡ true = grind (arith, nat_tests) in
    let noted : NotedStands (start rules) (first_group rules).views (founders_decided rules) = record {
      decided = itself;
      chose = record { stamp = refl; members = refl; resilience = refl; number = refl };
      line = sym (first_line rules may);
      opens = list_begins_itself _;
    } in
    record {
      noted = λ k d at. one_noted rules noted k d at;
      decided = λ y t. record { index = 0; view = founders_decided rules; there = refl; is = (let z : y ≡ x = grind (arith, nat_tests) in sym z) };
      current = λ d last. ap (λ (v : Decided). v.stamp) (same_from_push [] last.before (founders_decided rules) d last.is).1;
    }
  where
    one_noted : (rules : Rules) → NotedStands (start rules) (first_group rules).views (founders_decided rules) → (k : ℕ) (d : Decided)
        → slice_get (start rules).views k ≡ Some d → NotedStands (start rules) (first_group rules).views d
    one_noted rules h zero d at = let same : founders_decided rules ≡ d = cc in subst (NotedStands (start rules) (first_group rules).views) same h
    one_noted rules h (suc k) d at = absurd (cc)

pub group_stands_at_start : StartStands
group_stands_at_start rules may =
    let l = told_all_to rules 256 in
    let h = l.is in
    record {
      to = l.to;
      path = l.path;
      is = record {
        each = start_name rules l.to h;
        fronts = λ i few d. start_fronts rules l.to h i few;
        views = subst (ViewsStand (start rules)) (sym h.views) (start_views rules may);
        group = h.group_;
      };
    }
