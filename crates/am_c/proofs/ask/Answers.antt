use Rattle.std.proofs.Common.{Some, sym, ap, ◌∙◌, w32}
use Rattle.std.proofs.lemmas.Int.{to_z-of_z}
use Rattle.std.specs.Prelude.{option_map}
use Rattle.am_c.proofs.Calls.{sessions_between_hold, number_done_is_told, no_room_number_means_it}
use Rattle.am_c.proofs.ask.Goals as goal

pub returns-clause-told : goal.returns-clause-told
returns-clause-told c given =
    let old_is = ap (λ h. h.session) (sym c.replace.ensures.value) ∙ c.take.ensures ∙ ap (option_map (λ p. p.value)) c.in-Some.is
    ∙ ap Some (sym (c.deref_mut.ensures.value ∙ c.into_box-session.ensures)) in
    let number = sym c.number.ensures ∙ sym (to_z-of_z w32 c.number.result (record { sfits = c.number.type_inv })) ∙ given in
    sessions_between_hold _ _ _ _ _ old_is (c.of-2.ensures ∙ ap Some c.of.ensures) (c.step-end.ensures.told (number_done_is_told c.step-end.result number))

pub returns-clause-no_room : goal.returns-clause-no_room
returns-clause-no_room c given =
    let number = sym c.number.ensures ∙ sym (to_z-of_z w32 c.number.result (record { sfits = c.number.type_inv })) ∙ given in
    let old_is = ap (λ h. h.session) (sym c.replace.ensures.value) ∙ c.take.ensures ∙ ap (option_map (λ p. p.value)) c.in-Some.is
    ∙ ap Some (sym (c.deref_mut.ensures.value ∙ c.into_box-session.ensures)) in
    sessions_between_hold _ _ _ _ _ old_is (c.of-2.ensures ∙ ap Some c.of.ensures) (c.step-end.ensures.no_room (no_room_number_means_it c.step-end.result number))
