-- A name stops.
use Rattle.am_world.proofs.Words.{◌≡◌, ℕ, zero, suc, ◌+◌, ◌<◌, ◌≤◌, ◌==◌, ◌||◌, Bool, true, false, List, [], ◌∷◌, ◌++◌, length, slice_set, slice_index_or}
use Rattle.am_world.proofs.Words.{refl, append-nil, sym, ap, ◌∙◌, subst, arith, list_any, length-set, nat_tests, most_events_of_run, Entry, Rules, place_of_name, Event}
use Rattle.am_world.proofs.Words.{Record, happens, current, is_stopped, world_with_record, Node, Play, replay, AreLives, AreFlags, IsRun, play_of, EventIsAnswered}
use Rattle.am_world.proofs.Words.{after_answer}
use Rattle.am_base.specs.declared.outcome.Outcome.TheVariants as said
use Rattle.am_group_defs.specs.World as model
use Rattle.am_world.proofs.Goes.{EventIsRecorded, world_that_follows_carries_on, play_shows_its_replay}

same_suc : (a b : ℕ) → (suc a == suc b) ≡ (a == b)
same_suc a b = grind (arith, nat_tests)

-- one flag more
flag_set : (flags : List Bool) (name j : ℕ) → name < length flags
    → slice_index_or (slice_set flags name true) j false ≡ ((name == j) || slice_index_or flags j false)
flag_set [] name j h = absurd (omega arith)
flag_set (b ∷ flags) zero zero h = refl
flag_set (b ∷ flags) zero (suc j) h = let other : (0 == suc j) ≡ false = grind (arith, nat_tests) in rw other refl
flag_set (b ∷ flags) (suc name) zero h = let other : (suc name == 0) ≡ false = grind (arith, nat_tests) in rw other refl
flag_set (b ∷ flags) (suc name) (suc j) h = flag_set flags name j (omega arith) ∙ ap (λ t. t || slice_index_or flags j false) (sym (same_suc name j))

any_or : (a b c : Bool) → (a || (b || c)) ≡ (b || (a || c))
any_or true true c = refl
any_or true false c = refl
any_or false b c = refl

-- one name more that has stopped
any_more : (names : List ℕ) (name j : ℕ) → list_any (λ x. x == j) (names ++ name ∷ []) ≡ ((name == j) || list_any (λ x. x == j) names)
any_more [] name j = refl
any_more (x ∷ names) name j = ap (λ b. (x == j) || b) (any_more names name j) ∙ any_or (x == j) (name == j) (list_any (λ y. y == j) names)

-- the world with one name more that has stopped
abbrev stopping : model.World → ℕ → model.World
stopping w name = record w { stopped = w.stopped ++ name ∷ [] }

pub flags_with_stopped_name : (w : model.World) (name : ℕ) (flags : List Bool) → name < 256 → AreFlags flags w → AreFlags (slice_set flags name true) (stopping w name)
flags_with_stopped_name w name flags within h =
    let count = h.count in
    record {
      count = length-set flags name true ∙ count;
      each = λ j. flag_set flags name j (omega arith) ∙ ap (λ b. (name == j) || b) (h.each j) ∙ sym (any_more w.stopped name j);
    }

-- and where it had stopped before
pub flags_with_name_stopped_before : (w : model.World) (name : ℕ) (flags : List Bool) → name < 256 → is_stopped w name ≡ true → AreFlags flags w
    → AreFlags (slice_set flags name true) w
flags_with_name_stopped_before w name flags within is h =
    let count = h.count in
    record {
      count = length-set flags name true ∙ count;
      each = λ j. flag_set flags name j (omega arith) ∙ by_case j (name == j) refl;
    }
  where
    by_case : (j : ℕ) (b : Bool) → (name == j) ≡ b → (b || slice_index_or flags j false) ≡ is_stopped w j
    by_case j true e = let here : name ≡ j = grind (arith, nat_tests) in sym is ∙ ap (is_stopped w) here
    by_case j false e = h.each j

pub current_name_is_small : (w : model.World) (lives : List ℕ) (place : ℕ) → place < 16 → AreLives lives w → current w place < 256
current_name_is_small w lives place within h = let most = (h.within place within).1 in omega arith

pub stop_carries_play_on : (p : Play) (first founding : Rules) (nodes : List Node) (lives : List ℕ) (flags : List Bool) (records pushed : List Record)
    (group : List Entry) (e : Event) (name at : ℕ)
    → play_of first records ≡ p → IsRun (play_of first records) nodes lives flags records group → length p.events < most_events_of_run
    → name ≡ current (replay p) (place_of_name e.node) → at ≡ name
    → EventIsRecorded (replay p) e said.Stopped [] first founding records pushed → happens (replay p) e ≡ after_answer (replay p) e said.Stopped
    → IsRun (play_of founding pushed) nodes lives (slice_set flags at true) pushed group × EventIsAnswered p e said.Stopped
unfolding world_with_record
stop_carries_play_on p first founding nodes lives flags records pushed group e name at view ok few here there recorded is =
    let w = replay p in
    let now = current w (place_of_name e.node) in
    let was = play_shows_its_replay p first nodes lives flags records group view ok in
    let short : length group ≤ 1 + length p.events = subst (λ (q : Play). length group ≤ 1 + length q.events) view ok.short in
    let within : place_of_name e.node < 16 = omega arith in
    let more = flags_with_stopped_name w now flags (current_name_is_small w lives (place_of_name e.node) within was.living) was.stopped in
    world_that_follows_carries_on p first founding nodes nodes lives lives flags (slice_set flags at true) records pushed group group e said.Stopped []
    (world_with_record (stopping w now) e said.Stopped) view ok few recorded
    (record { happens_ = is; records = refl; letters_ = sym (append-nil w.letters) })
    (record { count = was.standing.count; each = was.standing.each }) (record { count = was.living.count; each = was.living.each; within = was.living.within })
    (subst (λ k. AreFlags (slice_set flags k true) (world_with_record (stopping w now) e said.Stopped)) (sym (there ∙ here))
    (record { count = more.count; each = more.each }))
    was.agreed (omega arith)
