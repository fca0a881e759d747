-- One act of each place that is due.
use Rattle.std.proofs.Common.{◌≡◌, ℕ, suc, ◌+◌, ◌-◌, ◌<◌, List, [], ◌∷◌, ◌++◌, map, Bool, ◌&&◌, refl, sym, ◌∙◌, ap, arith}
use Rattle.std.specs.Prelude.{filter}
use Rattle.std.specs.List.{range_with_len}
use Rattle.am_node_defs.proofs.Folds.{split_on_bool_of_log}
use Rattle.am_packet.specs.Boxes.{Letter}
use Rattle.am_group.specs.declared.event.Act.{Act}
use Rattle.am_group.specs.declared.event.Act.TheVariants as act
use Rattle.am_group.specs.declared.event.Event.{Event}
use Rattle.am_group_defs.specs.World.{World}
use Rattle.am_group_defs.specs.Settle.{event_at, running_places, ticks_of_places, hearings_of}
use Rattle.am_world.specs.Settling.{is_running, is_meant, passing_act_at}

-- an act of each place from one on that is due
abbrev pub acts_due_from_place : (ℕ → Bool) → Act → ℕ → List Event
acts_due_from_place due a place = map (λ at. event_at at a) (filter due (range_with_len place (16 - place)))

pub acts_due_with_next_place : (due : ℕ → Bool) (a : Act) (place : ℕ) → place < 16 → acts_due_from_place due a place ≡ passing_act_at (due place) a place ++ acts_due_from_place due a (place + 1)
acts_due_with_next_place due a place low =
    let left : 16 - place ≡ suc (16 - (place + 1)) = omega arith in
    ap (λ n. map (λ at. event_at at a) (filter due (range_with_len place n))) left
    ∙ split_on_bool_of_log (due place) (λ t. rw t refl) (λ f. rw f refl)

-- who ticks, and who hears a letter
abbrev pub place_hears_letter : World → Letter → ℕ → Bool
place_hears_letter w l place = is_running w place && is_meant w l place

filter_both : (p q : ℕ → Bool) (xs : List ℕ) → filter q (filter p xs) ≡ filter (λ x. p x && q x) xs
filter_both p q [] = refl
filter_both p q (x ∷ xs) =
    let more = filter_both p q xs in
    split_on_bool_of_log (p x)
    (λ t. split_on_bool_of_log (q x) (λ u. rw (t, u) (ap (λ (l : List ℕ). x ∷ l) more)) (λ u. rw (t, u) more))
    (λ f. rw f more)

pub acts_due_are_ticks : (w : World) → acts_due_from_place (is_running w) act.Tick 0 ≡ ticks_of_places w
unfolding running_places
acts_due_are_ticks w = refl

pub acts_due_are_hearings : (w : World) (number : ℕ) (l : Letter) → acts_due_from_place (place_hears_letter w l) (act.Hear number) 0 ≡ hearings_of w number l
unfolding running_places
acts_due_are_hearings w number l = ap (λ (places : List ℕ). map (λ at. event_at at (act.Hear number)) places)
    (sym (filter_both (is_running w) (is_meant w l) (range_with_len 0 16)))
