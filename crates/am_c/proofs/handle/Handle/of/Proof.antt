-- `of` keeps the box of the parts, by its pointer.
use Rattle.std.proofs.Common.{List, [], ◌∷◌, ◌++◌, refl, sym, subst}
use Rattle.std.specs.Prelude.{Some}
use Rattle.std.proofs.raw_atomic.Walks.{proved_at}
use base.Logic.{SProp, ent, id⊢}
use base.Fml.{ftrue, fsep}
use mir.Val.{Val}
use prog.Wp.{WpFn}
use contract.Running.{tables}
use types.Kit.{‵, ◌⊛◌, ◌$◌, ◌∵◌, !, qed, done, keep, drop, split, join, fsplit, fjoin, suffices}
use types.Part.{agg, sub, whole}
use types.Run.{enter, of_opd, fld, stop, no_more, and_then, returns}
use types.ByLocal.{alloc_all, pass_all, free_all, look_at, get, get_in, sets}
use denote.Exit.{yes}
use denote.RawPtr.{block_ptr}
use denote.Signature.{plain}
use denote.Steps.{nothing}
use denote.Triple.Walked.{Stays, walk_of, says, stay_dropped, Goes-dropped, ends_at}
use Rattle.std.specs.contracts.alloc.Global as heap
use Rattle.std.proofs.alloc.Global.TheLaws as heap_laws
use Rattle.std.specs.contracts.impls.GlobalAllocator.TheImpl.{ghosts}
use Rattle.am_c.specs.contracts.session.Session.{the_row as Row}
use Rattle.am_c.proofs.Boxes as boxes
use Rattle.am_c.proofs.Walks.{Parts, Handle, handle_val, handle_value_is_put_together}
use Rattle.am_c.specs.contracts.handle.Handle.of as f
use Rattle.am_c.proofs.handle.Handle.of.Statement.{statement}
use Rattle.am_c.proofs.handle.Handle.of.Code as code

abbrev stayed : Stays f.ended.signature.params f.ended.kept
stayed = (stay_dropped (plain (λ _. Parts)) yes, tt)

pub of_spec : {M : Type 1} → statement M
of_spec 𝓤 𝓛 𝓜 𝓡 wired =
    let c = f.clauses 𝓛 𝓜.mem 𝓡.returns in let W = walk_of 𝓛 f.ended stayed c in let 𝓣 = tables 𝓤 𝓛.H 𝓜 𝓡 𝓡.env in
    proved_at 𝓛 f.ended stayed c 𝓜 𝓡 (Goes-dropped 𝓛 0 (plain (λ _. Parts)) yes (λ κs x w. refl), tt)
    f.Key.name code.function (code.unfolded 𝓤 𝓛.H 𝓜 𝓡 wired) (λ y are.
    let d = y.0.3.0 in let Run : List Val → SProp 𝓤 = λ ws. WpFn 𝓤 𝓛.H 𝓣.C 𝓣.Λ code.function ws (W.post y) in
    qed 𝓛 ((‵ ftrue ⊛ ‵ (fsep (Parts.own_val d y.0.4.0) ftrue)) ∷ ‵ ftrue ∷ []) ∵
    split ! $ drop ! $ fsplit ! $ boxes.parts_value_is_taken_apart Row heap.the_row heap_laws.the_row_laws ghosts ! d y.0.4.0 (λ b o hv at e fa. keep ! (0 ∷ []) $
    let us : List Val = boxes.parts_val hv b o ∷ [] in let made : Handle.Denot = record { at = block_ptr b o; session = Some d.value } in
    suffices ! (Run us) (subst (λ (ws : List Val). ent 𝓤 (Run us) (Run ws)) (sym (λ i. e i ++ [])) (id⊢ 𝓤 (Run us))) $
    enter ! _ _ _ _ _ $ alloc_all ! (λ l. pass_all ! refl (boxes.parts_value_fits_type Row heap.the_row heap_laws.the_row_laws ghosts hv b o fa, tt) $
    sets ! (of_opd ! (get_in ! (fld ! refl (stop !)) (sub ! 0 refl (whole !)))) refl (tt, tt) $
    sets ! (of_opd ! (get ! refl)) refl (tt, tt) $
    sets ! (agg ! (and_then ! (get ! refl) (no_more !))) refl (tt, (tt, tt)) $
    returns ! (look_at ! 0 refl) $ free_all ! refl $
    suffices ! _ (ends_at 𝓛 f.ended stayed c y (handle_val (block_ptr b o)) made (tt, tt) (tt, tt)) $ says ! refl $
    handle_value_is_put_together ! made $ nothing ! $ nothing ! $ fjoin ! $ join ! $ nothing ! $ join ! $ done !)))
