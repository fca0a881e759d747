-- What the number of a call says of the session behind its handle.
use Rattle.std.proofs.Common.{◌≡◌, Option, Some, sym, subst, refl, arith}
use Rattle.am_c.specs.declared.session.Session.{Session}
use Rattle.am_c.specs.declared.session.StepEnd.{StepEnd}
use Rattle.am_c.specs.declared.session.StepEnd.TheVariants.{Told, NoMemory, NoRoom, Other}
use Rattle.am_c.specs.Numbers.{done, no_room, step_number}
use Rattle.am_c.specs.Handles.{Between}

pub sessions_between_hold : (old new : Option Session) (s t : Session) (holds : Session → Session → Type 0) → old ≡ Some s → new ≡ Some t → holds s t → Between old new holds
sessions_between_hold old new s t holds old_is new_is h =
    subst (λ (o : Option Session). Between o new holds) (sym old_is) (subst (λ (n : Option Session). Between (Some s) n holds) (sym new_is) h)

pub number_done_is_told : (end : StepEnd) → step_number end ≡ done → end ≡ Told
number_done_is_told Told e = refl
number_done_is_told NoMemory e = absurd (grind (arith, e))
number_done_is_told NoRoom e = absurd (grind (arith, e))
number_done_is_told Other e = absurd (grind (arith, e))

pub no_room_number_means_it : (end : StepEnd) → step_number end ≡ no_room → end ≡ NoRoom
no_room_number_means_it NoRoom e = refl
no_room_number_means_it Told e = absurd (grind (arith, e))
no_room_number_means_it NoMemory e = absurd (grind (arith, e))
no_room_number_means_it Other e = absurd (grind (arith, e))
