-- After so many taking rounds of a quiet world each send of its members is numbered and settled: by how many aren't numbered.
use Rattle.am_repair.proofs.RepairWords.{◌≡◌, ◌⊎◌, inl, inr, either, ℕ, zero, suc, ◌+◌, ◌-◌, ◌*◌, ◌<◌, ◌≤◌, nat_le, true, false, List, [], ◌∷◌, length, refl, sym, ap, ◌∙◌, subst, arith}
use Rattle.am_repair.proofs.RepairWords.{nat_tests, Image, Rules, has, names_of, top, log_image_at, image_at_top_is_told, image_of_node, World, Repair}
use Rattle.std.specs.List.{sum_by}
use Rattle.std.proofs.lemmas.List.Sums.{sum_by-cons}
use Rattle.am_base.specs.Lists.{row_of_name, image_of_log}
use Rattle.am_node_defs.specs.Sends as own
use Rattle.am_model.specs.Node.{own_row}
use Rattle.am_repair_takes.specs.Quiet.{raised}
use Rattle.am_repair_takes.specs.Resting.{count_of_unnumbered_sends}
use Rattle.am_repair_takes.proofs.Rounds.{many_rounds}
use Rattle.am_repair_takes.proofs.Sums.{names_all, set_falls, sums_low, find_one}
use Rattle.am_repair_takes.proofs.Quiet.{QuietRun}
use Rattle.am_repair_takes.proofs.Raised.{quiet_is_raised}
use Rattle.am_repair_takes.proofs.Starts.{Starts, starts_settle, starts_raised, told_there}
use Rattle.am_repair_takes.proofs.Blocks.{Caught, caught_after, three_rounds, rounds_in_turn}

-- ---- sums

sum_of_none : (xs : List ℕ) → sum_by (λ (x : ℕ). 0) xs ≡ 0
sum_of_none [] = refl
sum_of_none (x ∷ xs) = let a = sum_by-cons (λ (x : ℕ). 0) x xs in let b = sum_of_none xs in omega arith

-- where each name's last is counted, none is left
none_left : (last : ℕ → ℕ) (image : Image) (set : List ℕ) → length set ≡ 16 → ((name : ℕ) → has set name ≡ true → last name ≤ (row_of_name image name).last)
    → count_of_unnumbered_sends last image (names_of set) ≡ 0
none_left last image set long each =
    let f : ℕ → ℕ = λ name. last name - (row_of_name image name).last in
    let low = sums_low f (λ (x : ℕ). 0) (names_of set) (names_all (λ x. f x ≤ 0) set long (λ name there. (let h = each name there in omega arith))) in
    let none = sum_of_none (names_of set) in
    omega arith

-- and where one isn't, one is left at least
one_left : (last : ℕ → ℕ) (image : Image) (set : List ℕ) (name : ℕ) → length set ≡ 16 → has set name ≡ true → (row_of_name image name).last < last name
    → 0 < count_of_unnumbered_sends last image (names_of set)
one_left last image set name long there more =
    let up = set_falls (λ (x : ℕ). 0) (λ other. last other - (row_of_name image other).last) set name long there (λ other here. omega arith) (omega arith) in
    omega arith

-- ---- all that was sent is settled

unfoldable pub AllSettled : Repair → (ℕ → ℕ) → World → Type 0
AllSettled r last u = (name : ℕ) → has r.members name ≡ true → last name < own.next_request (u.nodes name).sends

-- with no more entries to come than there are
fewer : (rules : Rules) (r : Repair) (last : ℕ → ℕ) (total less : ℕ) (w : World) → QuietRun rules r last total w
    → top (w.nodes r.by) + count_of_unnumbered_sends last (image_of_log (w.nodes r.by).core.log) (names_of r.members) ≤ less → QuietRun rules r last less w
fewer rules r last total less w h few = record {
  may = h.may;
  events = h.events;
  run_ = h.run_;
  world_is_quiet = record {
    calm = h.calm;
    sent = h.sent;
    places = h.places;
    list = h.list;
    few = few;
    asks = h.asks;
    letters = h.letters;
    lasts = h.lasts;
  };
}

-- where each send is numbered, the list goes no further, and each member comes to have settled all
settled_then : (rules : Rules) (r : Repair) (last : ℕ → ℕ) (total many k : ℕ) (w : World) → QuietRun rules r last total w → Starts r w → r.high ≡ top (w.nodes r.by)
    → ((name : ℕ) → has r.members name ≡ true → r.high ≤ top (w.nodes name) + 8 * many) → many + 2 ≤ k
    → ((name : ℕ) → has r.members name ≡ true → last name ≤ (row_of_name (log_image_at (w.nodes r.by).core.log r.high) name).last) → AllSettled r last (many_rounds k w)
unfolding AllSettled
settled_then rules r last total many k w h starts at near enough all name there =
    let log = (w.nodes r.by).core.log in
    let image = log_image_at log r.high in
    let told_ : image ≡ image_of_log log = ap (log_image_at log) at ∙ image_at_top_is_told log in
    let none = none_left last image r.members h.places all in
    let same = ap (λ (i : Image). count_of_unnumbered_sends last i (names_of r.members)) told_ in
    let few = fewer rules r last total r.high w h (omega arith) in
    let c = caught_after rules r last r.high image many k w enough near (record { quiet = few; starts = starts; told = refl }) in
    let v = many_rounds k w in
    let m = v.nodes name in
    let have = c.caught name there in
    let stored = have.stored in
    let accepted = have.accepted in
    let t = told_there rules r last r.high v name c.stands.quiet there in
    let within = t.1 in
    let most = c.stands.quiet.few in
    let reached : top m ≡ r.high = omega arith in
    let settled = starts_settle rules r last r.high v c.stands.quiet c.stands.starts name there stored (omega arith) in
    let list : image_of_node m ≡ image = t.0 ∙ ap (log_image_at (v.nodes r.by).core.log) reached ∙ c.stands.told in
    let row : (own_row m).last ≡ (row_of_name image name).last = ap (λ i. (row_of_name (image_of_node m) i).last) (c.stands.quiet.calm.who name) ∙ ap (λ (i : Image). (row_of_name i name).last) list in
    let counted = all name there in
    omega arith

-- ---- the measure

pub record MayRest (rules : Rules) (r : Repair) (last : ℕ → ℕ) (total many left : ℕ) (w : World) : Type 0 where
  pub quiet : QuietRun rules r last total w
  pub starts : Starts r w
  pub at : r.high ≡ top (w.nodes r.by)
  pub near : (name : ℕ) → has r.members name ≡ true → r.high ≤ top (w.nodes name) + 8 * many
  pub left_ : total ≤ r.high + left

-- from where the sequencer stands after that
rests_on : (rules : Rules) (r : Repair) (last : ℕ → ℕ) (total left : ℕ) (image : Image) (w : World) → Caught rules r last total image w
    → total ≤ r.high + left → (let high = top (w.nodes r.by) in MayRest rules (raised r w high) last total (high - r.high) (left - (high - r.high)) w)
rests_on rules r last total left image w h few =
    let high = top (w.nodes r.by) in
    let quiet = h.stands.quiet in
    let reached = quiet.calm.leads.high in
    let most = quiet.few in
    record {
      quiet = record { may = quiet.may; events = quiet.events; run_ = quiet.run_; world_is_quiet = quiet_is_raised r last total high w quiet.world_is_quiet reached (omega arith) };
      starts = starts_raised rules r last total high w quiet reached (omega arith) h.stands.starts;
      at = refl;
      near = λ name there. (let stored = (h.caught name there).stored in omega arith);
      left_ = omega arith;
    }

-- where a send isn't numbered, one more entry stands at least after so many rounds
one_more : (rules : Rules) (r : Repair) (last : ℕ → ℕ) (total many left : ℕ) (w : World) → MayRest rules r last total many left w → (name : ℕ)
    → has r.members name ≡ true → (row_of_name (log_image_at (w.nodes r.by).core.log r.high) name).last < last name
    → (let v = many_rounds (many + 2 + 3) w in Caught rules r last total (log_image_at (w.nodes r.by).core.log r.high) v × (r.high + 1 ≤ top (v.nodes r.by)))
one_more rules r last total many left w h name there more =
    let image = log_image_at (w.nodes r.by).core.log r.high in
    let a = caught_after rules r last total image many (many + 2) w (omega arith) h.near (record { quiet = h.quiet; starts = h.starts; told = refl }) in
    subst (λ v. Caught rules r last total image v × (r.high + 1 ≤ top (v.nodes r.by))) (sym (rounds_in_turn (many + 2) 3 w))
    (three_rounds rules r last total image name (many_rounds (many + 2) w) there more a)

-- so many are left at least
some_left : (rules : Rules) (r : Repair) (last : ℕ → ℕ) (total many left : ℕ) (w : World) → MayRest rules r last total many left w → (name : ℕ)
    → has r.members name ≡ true → (row_of_name (log_image_at (w.nodes r.by).core.log r.high) name).last < last name → 0 < left
some_left rules r last total many left w h name there more =
    let log = (w.nodes r.by).core.log in
    let told_ : log_image_at log r.high ≡ image_of_log log = ap (log_image_at log) h.at ∙ image_at_top_is_told log in
    let less : (row_of_name (image_of_log log) name).last < last name = subst (λ (i : Image). (row_of_name i name).last < last name) told_ more in
    let some = one_left last (image_of_log log) r.members name h.quiet.places there less in
    let few = h.quiet.few in
    let at = h.at in
    let most = h.left_ in
    omega arith

no_more : (a b : ℕ) → nat_le a b ≡ true → a ≤ b
no_more a b t = grind (arith, nat_tests)

some_more : (a b : ℕ) → nat_le a b ≡ false → b < a
some_more a b f = grind (arith, nat_tests)

-- each name's sends are numbered, or one isn't
numbered_or_not : (r : Repair) (last : ℕ → ℕ) (w : World)
    → ((name : ℕ) → has r.members name ≡ true → last name ≤ (row_of_name (log_image_at (w.nodes r.by).core.log r.high) name).last)
    ⊎ ((name : ℕ) × (has r.members name ≡ true) × ((row_of_name (log_image_at (w.nodes r.by).core.log r.high) name).last < last name))
numbered_or_not r last w = either (find_one (λ name. nat_le (last name) (row_of_name (log_image_at (w.nodes r.by).core.log r.high) name).last) r.members)
    (λ all. inl (λ name there. no_more (last name) (row_of_name (log_image_at (w.nodes r.by).core.log r.high) name).last (all name there)))
    (λ one. inr (one.0, one.1, some_more (last one.0) (row_of_name (log_image_at (w.nodes r.by).core.log r.high) one.0).last one.2))

pub rests : (fuel : ℕ) (rules : Rules) (r : Repair) (last : ℕ → ℕ) (total many left k : ℕ) (w : World) → left ≤ fuel → many + 2 + 6 * left ≤ k
    → MayRest rules r last total many left w → AllSettled r last (many_rounds k w)
unfolding AllSettled
rests zero rules r last total many left k w low enough h = either (numbered_or_not r last w)
    (λ all. settled_then rules r last total many k w h.quiet h.starts h.at h.near (omega arith) all)
    (λ one. absurd (let some = some_left rules r last total many left w h one.0 one.1 one.2 in omega arith))
rests (suc fuel) rules r last total many left k w low enough h = either (numbered_or_not r last w)
    (λ all. settled_then rules r last total many k w h.quiet h.starts h.at h.near (omega arith) all)
    (λ one.
    let v = many_rounds (many + 2 + 3) w in
    let z = one_more rules r last total many left w h one.0 one.1 one.2 in
    let up = z.1 in
    let high = top (v.nodes r.by) in
    let new = high - r.high in
    let most = z.0.stands.quiet.few in
    let few = h.left_ in
    let some = some_left rules r last total many left w h one.0 one.1 one.2 in
    let rest = rests fuel rules (raised r v high) last total new (left - new) (k - (many + 2 + 3)) v (omega arith) (omega arith)
    (rests_on rules r last total left (log_image_at (w.nodes r.by).core.log r.high) v z.0 few) in
    let count : many + 2 + 3 + (k - (many + 2 + 3)) ≡ k = omega arith in
    let is : many_rounds (k - (many + 2 + 3)) v ≡ many_rounds k w = sym (rounds_in_turn (many + 2 + 3) (k - (many + 2 + 3)) w) ∙ ap (λ n. many_rounds n w) count in
    subst (λ (u : World). (name : ℕ) → has r.members name ≡ true → last name < own.next_request (u.nodes name).sends) is rest)
