-- What rises in a step, and that a list begins by a Welcome alone, whose base was taken.
use Rattle.am_repair.proofs.Repairable.RepairedWords.{◌≡◌, ◌⊎◌, inl, inr, either, ℕ, ◌≤◌, false, refl, sym, ap, ◌∙◌, subst, arith, Image, Stamp, Outcome, Rules, has_log_by_status, Node}
use Rattle.am_repair.proofs.Repairable.RepairedWords.{Cause, hears, Changes, unchanged, changed, refresh_rests_with_list, own_leave_rests, settle_changes_only_sends, member_status_has_log, HeardStampsHaveNames, HeardWelcomeImageIsUsed, TrimsOnlyTakenAlongStep}
use Rattle.am_repair.proofs.Repairable.RepairedWords.{changes_trim_only_taken, BaseAndTakenRise, base_and_taken_rise, ChangeByItsKind, change_has_its_kind, Packet}
use Rattle.am_lawful_runs.proofs.Ways as ways

-- ---- what rises

pub node_rises_by_change : (rules : Rules) {c : Cause} {o : Outcome} (m n : Node) → HeardStampsHaveNames c → HeardWelcomeImageIsUsed c → Changes c o m n → TrimsOnlyTakenAlongStep rules m → BaseAndTakenRise m n
node_rises_by_change rules m n heard used unchanged a = record { base = omega arith; taken = omega arith }
node_rises_by_change rules m n heard used (changed {n = x} one more) a =
    let r = base_and_taken_rise _ _ m x a.blanked a.owned.fronts one in
    let k = node_rises_by_change rules x n heard used more (changes_trim_only_taken rules m x heard used (changed one unchanged) a) in
    record { base = omega arith; taken = omega arith }

-- ---- who begins

-- a Welcome that is heard
pub record CauseIsWelcome (c : Cause) : Type 0 where
  pub from : ℕ
  pub stamp : Stamp
  pub base : ℕ
  pub join : ℕ
  pub image : Image
  pub says : c ≡ hears (Packet.Welcome from stamp base join image)

-- a list that it began
pub record BeganByWelcome (c : Cause) (y : Node) : Type 0 where
  pub welcome : CauseIsWelcome c
  pub open welcome use *
  pub taken : base ≤ y.core.taken

-- it has no list, or a Welcome began it
abbrev Blank : Cause → Node → Type 0
Blank c y = (has_log_by_status y.status ≡ false) ⊎ BeganByWelcome c y

on : (c : Cause) (x y : Node) → x.core.taken ≤ y.core.taken → (has_log_by_status x.status ≡ false → has_log_by_status y.status ≡ false) → Blank c x → Blank c y
on c x y up none h = either h (λ f. inl (none f)) (λ b. inr (record { welcome = b.welcome; taken = let t = b.taken in omega arith }))

blank_kind : (c : Cause) (o : Outcome) (x y : Node) → ChangeByItsKind c o x y → Blank c x → Blank c y
blank_kind c o x y (ways.alike a) h = let t = a.taken in on c x y (omega arith) (λ f. ap has_log_by_status a.status ∙ f) h
blank_kind c o x y ways.refreshed h = let r = (refresh_rests_with_list x).rests in on c x y r.taken (λ f. ap has_log_by_status r.status ∙ f) h
blank_kind c o x y ways.settled h = subst (Blank c) (sym (settle_changes_only_sends x)) (on c x _ (omega arith) (λ f. f) h)
blank_kind c o x y (ways.began s v base join image is says may) h =
    inr (record { welcome = record { from = s; stamp = v; base = base; join = join; image = image; says = is }; taken = omega arith })
blank_kind c o x y (ways.left member leaves) h = on c x y (omega arith) (λ f. absurd (let t = member_status_has_log x.status member in cc)) h
blank_kind c o x y (ways.asked_in was) h = on c x y (omega arith) (λ f. refl) h
blank_kind c o x y (ways.gone member leaves) h = let r = own_leave_rests x in on c x y r.taken (λ f. absurd (let t = member_status_has_log x.status member in cc)) h
blank_kind c o x y _ h = on c x y (omega arith) (λ f. f) h

blank_along : {c : Cause} {o : Outcome} (x n : Node) → Changes c o x n → Blank c x → Blank c n
blank_along x n unchanged h = h
blank_along x n (changed {n = y} one more) h = blank_along y n more (blank_kind _ _ x y (change_has_its_kind x y one) h)

pub list_begins_by_welcome_alone : {c : Cause} {o : Outcome} (m n : Node) → Changes c o m n → has_log_by_status m.status ≡ false → Blank c n
list_begins_by_welcome_alone m n all none = blank_along m n all (inl none)
