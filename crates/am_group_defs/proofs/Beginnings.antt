-- What a run has so far stays: its records, its letters and its group list only get more.
use Rattle.std.proofs.Common.{◌≡◌, ℕ, ◌==◌, List, [], ◌∷◌, ◌++◌, take, drop, refl}
use Rattle.std.proofs.Common.{sym, ap, ◌∙◌, append_assoc}
use Rattle.std.proofs.lemmas.List.{append-nil, take-append-drop}
use Rattle.am_base.specs.declared.entry.Entry.{Entry}
use Rattle.am_base.specs.Founding.{Rules}
use Rattle.am_group.specs.declared.event.Event.{Event}
use Rattle.am_model.specs.Node.{Node, view}
use Rattle.am_group_defs.specs.World.{World, start, list_after_step, world_with_record, world_with_step, happens, world_after_events, run}
use Rattle.am_group_defs.specs.Claims.{WorldBegins}
use Rattle.am_base.proofs.Greatest.{split_on_bool}
use Rattle.am_group_defs.proofs.Events.{holds_after_event}
use Rattle.am_group_defs.proofs.Runs.{runs_go_on}

-- more stands after a list
abbrev Longer : {A : Type 0} → List A → List A → Type 0
Longer {A} xs ys = (rest : List A) × (ys ≡ xs ++ rest)

same : {A : Type 0} (xs : List A) → Longer xs xs
same xs = ([], sym (append-nil xs))

longer : {A : Type 0} (xs ys zs : List A) → Longer xs ys → Longer ys zs → Longer xs zs
longer xs ys zs h k = (h.0 ++ k.0, k.1 ∙ ap (λ l. l ++ k.0) h.1 ∙ append_assoc xs h.0 k.0)

-- ---- one event

group_longer : (group : List Entry) (m : Node) → Longer group (list_after_step group m)
group_longer group m = split_on_bool ((view m).by == m.core.who) (λ t. rw t (_, refl)) (λ f. rw f (same group))

pub world_begins_after_event : (w : World) (e : Event) → WorldBegins w (happens w e)
unfolding world_with_record world_with_step
world_begins_after_event w e = holds_after_event WorldBegins w e (record {
  as_it_was = λ e o. record { records = (_, refl); letters = same w.letters; group = same w.group };
  a_step = λ e name s. record { records = (_, refl); letters = (_, refl); group = group_longer w.group s.node };
  a_stop = λ e o stopped. record { records = (_, refl); letters = same w.letters; group = same w.group };
  a_life = λ e o place. record { records = (_, refl); letters = same w.letters; group = same w.group };
})

-- ---- runs

begins_same : (w : World) → WorldBegins w w
begins_same w = record { records = same w.records; letters = same w.letters; group = same w.group }

begins_then : (u v w : World) → WorldBegins u v → WorldBegins v w → WorldBegins u w
begins_then u v w h k = record {
  records = longer u.records v.records w.records h.records k.records;
  letters = longer u.letters v.letters w.letters h.letters k.letters;
  group = longer u.group v.group w.group h.group k.group;
}

pub world_begins_after_events : (w : World) (es : List Event) → WorldBegins w (world_after_events w es)
unfolding world_after_events
world_begins_after_events w [] = begins_same w
world_begins_after_events w (e ∷ es) = begins_then w (happens w e) _ (world_begins_after_event w e) (world_begins_after_events (happens w e) es)

-- a run up to some event begins the run
pub run_begins_longer_run : (rules : Rules) (events : List Event) (k : ℕ) → WorldBegins (run rules (take k events)) (run rules events)
run_begins_longer_run rules events k =
    let whole : world_after_events (start rules) events ≡ world_after_events (run rules (take k events)) (drop k events) = ap (world_after_events (start rules)) (sym (take-append-drop k events))
    ∙ runs_go_on (start rules) (take k events) (drop k events) in
    rw whole (world_begins_after_events (run rules (take k events)) (drop k events))
