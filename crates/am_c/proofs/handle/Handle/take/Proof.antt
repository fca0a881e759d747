-- `take` gives the parts of an open handle, and nothing of a closed one.
use Rattle.std.proofs.Common.{List, [], ◌∷◌, ◌++◌, refl, sym, ap, ◌∙◌, subst, lit<}
use Rattle.std.specs.Prelude.{Some, None}
use Rattle.std.proofs.raw_atomic.Walks.{proved_at}
use Rattle.std.proofs.alloc.Calls.{handle_tells}
use base.Logic.{SProp, ent, id⊢}
use base.Fml.{ftrue, fsep}
use mir.Val.{Val, of_list, has_ty}
use prog.Wp.{WpFn}
use contract.Running.{tables}
use types.Kit.{‵, ◌⊛◌, ◌$◌, ◌∵◌, !, at_ret, qed, done, move, keep, drop, split, join, fsplit, fjoin, suffices, use0, use1}
use types.Match.{live}
use types.Part.{agg, sub, whole}
use types.Run.{enter, of_opd, fld, stop, no_more, and_then, returns, returns_within, bin, lit, first, branches, skips, exec}
use types.ByLocal.{alloc_all, pass_all, free_all, look_at, get, get_in, sets, env}
use denote.Exit.{yes}
use denote.Param.{layout}
use denote.RawPtr.{Ptr, block_ptr, null_ptr, tests_null}
use denote.Signature.{plain}
use denote.Steps.{nothing}
use denote.Triple.Walked.{Stays, walk_of, says, stay_dropped, Goes-dropped, ends_at}
use Rattle.std.specs.contracts.alloc.Global as heap
use Rattle.std.specs.contracts.option.Option as option
use Rattle.std.proofs.option.Made.{Some-of, none_of}
use Rattle.std.proofs.ResultValues.{and_tt}
use Rattle.std.proofs.alloc.Global.TheLaws as heap_laws
use Rattle.std.specs.contracts.impls.GlobalAllocator.TheImpl.{ghosts}
use Rattle.am_c.specs.contracts.session.Session.{the_row as Row}
use Rattle.am_c.proofs.Boxes as boxes
use Rattle.am_c.proofs.Walks.{al, Parts, Handle, handle_val, handle_value_is_taken_apart, held_session_null_or_box}
use Rattle.am_c.specs.contracts.handle.Handle.take as f
use Rattle.am_c.proofs.handle.Handle.take.Statement.{statement}
use Rattle.am_c.proofs.handle.Handle.take.Code as code

abbrev stayed : Stays f.ended.signature.params f.ended.kept
stayed = (stay_dropped (plain (λ _. Handle)) yes, (stay_dropped (plain (λ _. heap.the_row)) yes, tt))

pub take_spec : {M : Type 1} → statement M
take_spec 𝓤 𝓛 𝓜 𝓡 wired =
    let c = f.clauses 𝓛 𝓜.mem 𝓡.returns in let W = walk_of 𝓛 f.ended stayed c in let 𝓣 = tables 𝓤 𝓛.H 𝓜 𝓡 𝓡.env in
    proved_at 𝓛 f.ended stayed c 𝓜 𝓡
    (Goes-dropped 𝓛 0 (plain (λ _. Handle)) yes (λ κs x w. refl), (Goes-dropped 𝓛 0 (plain (λ _. heap.the_row)) yes (λ κs x w. refl), tt))
    f.Key.name code.function (code.unfolded 𝓤 𝓛.H 𝓜 𝓡 wired) (λ y are.
    let h = y.0.3.0 in let alloc = y.0.3.1.0 in let Run : List Val → SProp 𝓤 = λ ws. WpFn 𝓤 𝓛.H 𝓣.C 𝓣.Λ code.function ws (W.post y) in
    qed 𝓛 ((‵ ftrue ⊛ ‵ (fsep (Handle.own_val h y.0.4.0) (fsep (heap.the_row.own_val alloc y.0.4.1.0) ftrue))) ∷ ‵ ftrue ∷ []) ∵
    split ! $ drop ! $ fsplit ! $ handle_value_is_taken_apart ! h y.0.4.0 (λ e. move ! (1 ∷ []) $ fsplit ! $ handle_tells al ! alloc y.0.4.1.0 (λ hv ea fa. keep ! (2 ∷ 0 ∷ []) $
    -- [what the handle has; the allocator]
    held_session_null_or_box ! h.at h.session
    (λ at none.
    let us : List Val = handle_val null_ptr ∷ hv ∷ [] in let e' = e ∙ ap (λ (q : Ptr). handle_val q ∷ []) at in
    suffices ! (Run us) (subst (λ (ws : List Val). ent 𝓤 (Run us) (Run ws)) (sym (λ i. e' i ++ (ea i ++ []))) (id⊢ 𝓤 (Run us))) $
    enter ! _ _ _ _ _ $ alloc_all ! (λ l. pass_all ! refl ((tt, (record { fits = lit< tt }, tt)), (fa, tt)) $
    sets ! (of_opd ! (get_in ! (fld ! refl (stop !)) (sub ! 0 refl (whole !)))) refl (tt, record { fits = lit< tt }) $
    sets ! (bin ! (get ! refl) (lit ! tt) (tests_null null_ptr (lit< tt))) refl (tt, tt) $
    first ! $ branches ! (get ! refl)
    (λ is. sets ! (agg ! (and_then ! (lit ! tt) (no_more !))) refl (tt, (record { fits = lit< tt }, tt)) $
    returns_within ! (W.post y) refl (look_at ! 0 refl) $ free_all ! refl $ keep ! [] $
    use0 𝓛 (‵ ((option.the_row Parts).own_val None (live 0 (of_list []) ∷ []))) (none_of 𝓛 Parts) $
    suffices ! _ (ends_at 𝓛 f.ended stayed c y (live 0 (of_list [])) None (tt, (tt, tt)) (tt, (tt, tt))) $ says ! none $
    nothing ! $ nothing ! $ fjoin ! $ nothing ! $ fjoin ! $ join ! $ nothing ! $ join ! $ done !)
    (λ isn't. absurd isn't)))
    (λ b o x at some may.
    let us : List Val = handle_val (block_ptr b o) ∷ hv ∷ [] in let e' = e ∙ ap (λ (q : Ptr). handle_val q ∷ []) at in
    let made : Parts.Denot = record { ptr = block_ptr b o; alloc = alloc; value = x } in let v = boxes.parts_val hv b o in
    let typed = boxes.parts_value_fits_type Row heap.the_row heap_laws.the_row_laws ghosts hv b o fa in
    suffices ! (Run us) (subst (λ (ws : List Val). ent 𝓤 (Run us) (Run ws)) (sym (λ i. e' i ++ (ea i ++ []))) (id⊢ 𝓤 (Run us))) $
    enter ! _ _ _ _ _ $ alloc_all ! (λ l. pass_all ! refl ((tt, (tt, tt)), (fa, tt)) $
    sets ! (of_opd ! (get_in ! (fld ! refl (stop !)) (sub ! 0 refl (whole !)))) refl (tt, tt) $
    sets ! (bin ! (get ! refl) (lit ! tt) (tests_null (block_ptr b o) may)) refl (tt, tt) $
    first ! $ branches ! (get ! refl)
    (λ is. absurd is)
    (λ isn't. skips ! $ exec ! 𝓣.C 𝓣.Λ (env code.Mir.locals l) code.Mir.t-4 (at_ret _ (W.post y)) $
    sets ! (of_opd ! (get ! refl)) refl (tt, tt) $
    sets ! (agg ! (and_then ! (get ! refl) (and_then ! (get ! refl) (no_more !)))) refl typed $
    sets ! (agg ! (and_then ! (lit ! tt) (and_then ! (get ! refl) (no_more !)))) refl
    (and_tt (has_ty (layout Parts) v) typed.0, (record { fits = lit< tt }, (typed.1, tt))) $
    returns ! (look_at ! 0 refl) $ free_all ! refl $ boxes.parts_value_is_put_together Row heap.the_row heap_laws.the_row_laws ghosts ! b o hv alloc x $
    use1 𝓛 (‵ ((option.the_row Parts).own_val (Some made) (live 1 (of_list (v ∷ [])) ∷ []))) (Some-of 𝓛 Parts made v) $
    suffices ! _ (ends_at 𝓛 f.ended stayed c y (live 1 (of_list (v ∷ []))) (Some made) (tt, (tt, tt)) (tt, (tt, tt))) $ says ! some $
    nothing ! $ nothing ! $ fjoin ! $ nothing ! $ fjoin ! $ join ! $ nothing ! $ join ! $ done !))))))
