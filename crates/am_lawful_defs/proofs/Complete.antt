-- What is kept says who stored a view, who lags, and who is lost, as the world does.
use Rattle.am_lawful_defs.proofs.Words.{◌≡◌, ℕ, ◌+◌, min, Bool, false, not, ◌&&◌, ◌||◌, ◌==◌, nat_le, nat_lt, List, take, count_by, slice_index_or, sym, ap, ◌∙◌}
use Rattle.am_lawful_defs.proofs.Words.{take-append-le, list_any-append, list_any, Stamp, Entry, has, size, names_of, stamp_is_less, World, has_departed, is_view_of}
use Rattle.am_lawful_defs.proofs.Words.{DecidedView, NameStanding, Pending, Watching, standing, is_there_and_at_most, number_of_view, decided_of_view, WatchSees, IsNoted, HoldsOfEach}
use Rattle.am_group_defs.specs.Lawful as law
use Rattle.am_lawful_defs.specs.Watching as kept
use Rattle.am_lawful_defs.proofs.{Folds.PendingIsCompleteAsInWorld, Folds.each_with_weaker_property, Numbers.number_of_view_is_by}

-- the group list up to where a name's list begins
begin_is : (k : Watching) (w : World) (group : List Entry) (name : ℕ) → WatchSees k w group
    → take (w.nodes name).core.log.start w.group ≡ take (w.nodes name).core.log.start group
begin_is k w group name sees = ap (take (w.nodes name).core.log.start) sees.goes_on
    ∙ take-append-le (w.nodes name).core.log.start group sees.more (sees.within name)

stored_one : (k : Watching) (w : World) (group : List Entry) (v : Pending) (name : ℕ) → WatchSees k w group → IsNoted w group v
    → kept.watch_has_stored k v name ≡ law.has_stored w v.decided.view.stamp name
stored_one k w group v name sees noted =
    let p = is_view_of v.decided.view.stamp in
    let n = w.nodes name in
    let from : is_there_and_at_most v.number_in_group (standing k name).from ≡ list_any p (take n.core.log.start w.group) =
    ap (λ o. is_there_and_at_most o (standing k name).from) noted.placed ∙ ap (λ (m : NameStanding). is_there_and_at_most (number_of_view v.decided.view.stamp 1 group) m.from) (sees.names name)
    ∙ number_of_view_is_by v.decided.view.stamp n.core.log.start group ∙ ap (list_any p) (sym (begin_is k w group name sees)) in
    ap (λ b. b || slice_index_or v.stored name false) from ∙ ap (λ b. list_any p (take n.core.log.start w.group) || b) (noted.stored name)
    ∙ sym (list_any-append p (take n.core.log.start w.group) n.core.log.entries)

stored_is : (k : Watching) (w : World) (group : List Entry) (v : Pending) → WatchSees k w group → IsNoted w group v
    → kept.watch_has_stored k v ≡ law.has_stored w v.decided.view.stamp
stored_is k w group v sees noted = λ i name. stored_one k w group v name sees noted i

lags_is : (k : Watching) (w : World) (group : List Entry) (v : Stamp) → WatchSees k w group → kept.watch_lags k v ≡ law.lags_behind_view w v
lags_is k w group v sees = λ i name. (ap (λ gone. not (list_any (λ other. other == name) gone)
    && (not (has_departed (standing k name).status) && stamp_is_less (standing k name).view v)) sees.stopped
    ∙ ap (λ (m : NameStanding). not (list_any (λ other. other == name) w.stopped) && (not (has_departed m.status) && stamp_is_less m.view v)) (sees.names name)) i

pub kept_is_complete_of_world : (k : Watching) (w : World) (group : List Entry) (v : Pending) → WatchSees k w group → IsNoted w group v
    → kept.watch_is_complete k v ≡ law.is_complete w (decided_of_view v.decided)
unfolding kept.watch_is_complete law.is_complete
kept_is_complete_of_world k w group v sees noted =
    let names = names_of v.decided.view.members in
    let need = min (v.decided.view.resilience + 1) (size v.decided.view.members) in
    ap (λ (f : ℕ → Bool). nat_le need (count_by f names) && not (list_any (kept.watch_lags k v.decided.view.stamp) names)) (stored_is k w group v sees noted)
    ∙ ap (λ (f : ℕ → Bool). nat_le need (count_by (law.has_stored w v.decided.view.stamp) names) && not (list_any f names))
    (lags_is k w group v.decided.view.stamp sees)

pub each_pending_is_kept_complete : (k : Watching) (w : World) (group : List Entry) (vs : List Pending) → WatchSees k w group → HoldsOfEach (IsNoted w group) vs → HoldsOfEach (PendingIsCompleteAsInWorld k w) vs
each_pending_is_kept_complete k w group vs sees noted = each_with_weaker_property (IsNoted w group) (PendingIsCompleteAsInWorld k w) (λ v h. record { is = kept_is_complete_of_world k w group v sees h }) vs noted

lost_is : (k : Watching) (w : World) (group : List Entry) (v : DecidedView) → WatchSees k w group → kept.watch_is_lost k v ≡ law.is_counted_loss w (decided_of_view v)
lost_is k w group v sees = λ i name.
    ap (λ (m : NameStanding). (has v.view.members name || nat_lt v.number m.start) && not (has_departed m.status)) (sees.names name) i

pub kept_is_lawful_of_world : (k : Watching) (w : World) (group : List Entry) (v : DecidedView) → WatchSees k w group → kept.watch_is_lawful k v ≡ law.is_lawful w (decided_of_view v)
unfolding kept.watch_is_lawful law.is_lawful
kept_is_lawful_of_world k w group v sees =
    ap (λ (f : ℕ → Bool). nat_le (count_by f k.stopped) v.view.resilience) (lost_is k w group v sees)
    ∙ ap (λ gone. nat_le (count_by (law.is_counted_loss w (decided_of_view v)) gone) v.view.resilience) sees.stopped
