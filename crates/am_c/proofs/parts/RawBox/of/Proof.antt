-- `of` takes a box apart.
use Rattle.std.proofs.Common.{List, [], ◌∷◌, ◌++◌, ◌≡◌, refl, sym, ap, ◌∙◌, subst}
use Rattle.std.proofs.alloc.Calls.{Goes-blank, handle_tells}
use Rattle.std.proofs.BoxSteps.Form as box
use Rattle.std.proofs.BoxSteps.Steps.{box_out, box_in}
use Rattle.std.proofs.raw_atomic.Walks.{proved_at, leaves}
use Rattle.std.specs.Box.Ownership.{box_owns}
use base.Logic.{SProp, ent, emp, never, id⊢, fst∗}
use base.Fml.{ftrue, flft}
use contract.Monad.{fact, fact_i}
use contract.Running.{tables}
use mir.MapTy.{inst_fn}
use mir.Raw.{raw as bare}
use mir.Syntax.{a_type, dcons, dnil}
use mir.Val.{Val, vstruct, of_list}
use prog.Wp.{WpFn}
use types.Logic.{sem}
use types.Kit.{‵, raw, ◌⊛◌, some, later, ◌$◌, ◌∵◌, !, qed, by, move, keep, drop}
use types.Kit.{split, split3, join, fsplit, fjoin, fpick, pick, suffices, use0, use1, await, rewrite, feq_l}
use types.Part.{agg, sub, whole}
use types.Run.{stop, fld, of_opd, no_more, and_then, returns, enter}
use types.ByLocal.{alloc_all, pass_all, free_all, look_at, get, get_in, sets, lands_as}
use denote.Builtin.{RawPtr}
use denote.Exit.{no}
use denote.Param.{param, layout, bounded}
use denote.Param.Laws.{param_laws}
use denote.RattleType.{RattleType, owns}
use denote.RawPtr.{Ptr, block_ptr, null_ptr, ptr_val, in_a_block}
use denote.Signature.{types_at, plain}
use denote.Steps.{nothing, only, heard}
use denote.Struct.Tuple.{Tuple}
use denote.Triple.Call.{calls_at}
use denote.Triple.Clauses.{Lasts, lasts}
use denote.Triple.Spec.{triple_of}
use denote.Triple.Table.{framed}
use denote.Triple.Walked.{Stays, stay_dropped, walk_of}
use Rattle.std.specs.contracts.boxed.Box.into_raw_with_allocator as callee
use Rattle.std.proofs.boxed.Box.into_raw_with_allocator.Met.{met}
use Rattle.am_c.proofs.Boxes.{al, Parts, parts_val, parts_value_fits_type, parts_value_is_put_together}
use Rattle.am_c.specs.contracts.parts.RawBox.of as f
use Rattle.am_c.proofs.parts.RawBox.of.Statement.{statement}
use Rattle.am_c.proofs.parts.RawBox.of.Code as code

pub of_spec : {M : Type 1} → statement M
of_spec 𝓤 𝓛 𝓜 𝓡 wired T' A LT LA g d dd dx allocates drops drops_inner =
    let R : RattleType = param 0 T' in let Z : RattleType = param 1 A in let LZ = param_laws 1 A LA in
    let En = f.ended T' A g d dd dx in let c = f.clauses T' A g d dd dx 𝓛 𝓜.mem 𝓡.returns in let 𝓣 = tables 𝓤 𝓛.H 𝓜 𝓡 𝓡.env in
    let args = bounded (a_type ∷ a_type ∷ []) (T', (A, tt)) (dcons d (dcons dd (dcons dx dnil))) in let fn = inst_fn args code.function in
    let E : box.Bx = record { row = T'; laws = LT; al = record { row = A; laws = LA; g = g; d = d; drops = dd } } in let B : RattleType = box.B E in
    let stayed : Stays En.signature.params En.kept = (stay_dropped (plain (λ _. B)) no, tt) in
    proved_at 𝓛 En stayed c 𝓜 𝓡 (Goes-blank 𝓛 2 (plain (λ _. B)) no (λ κs x w. tt), tt)
    (f.Key.name args) fn (code.unfolded 𝓤 𝓛.H 𝓜 𝓡 wired (T', (A, tt)) d dd dx) (λ y are.
    let κs = y.0.0 in let qs = y.0.1 in let v = y.0.3.0 in
    let Post : Val → SProp 𝓤 = (walk_of 𝓛 En stayed c).post y in let Run : List Val → SProp 𝓤 = λ ws. WpFn 𝓤 𝓛.H 𝓣.C 𝓣.Λ fn ws Post in
    let alive = ‵ (flft κs.0 qs.0) ⊛ ‵ (flft κs.1.0 qs.1.0) ⊛ ‵ ftrue in let Owned : Ptr → _ = λ p. box_owns (g.dealloc_token v.alloc) R p v.value in
    qed 𝓛 ((alive ⊛ ‵ (owns (types_at En.signature.params κs) y.0.3 y.0.4)) ∷ raw ((c κs y.0.3).requires y.1) ∷ []) ∵
    split ! $ move ! (1 ∷ []) $ fsplit ! $ box_out E ! v y.0.4.0 (λ b o hv at is fits. box_in E ! v b o v.value at refl $
    let w : Val = box.word E hv b o in let typed = parts_value_fits_type R Z LZ g hv b o fits in
    let G = triple_of 𝓛 (callee.signature T' A g d dd dx) (callee.spec T' A g d dd dx 𝓛 𝓜.mem 𝓡.returns) in
    let z : G.Ghost = ((κs, qs, tt, (v, tt), (w ∷ [], tt)), tt) in
    let Pair = Tuple (RawPtr ∷ Z ∷ []) in
    fjoin ! $ move ! (1 ∷ 0 ∷ []) $ join ! $ join ! $ use1 𝓛 (raw (G.pre z)) (id⊢ 𝓤 _) $
    suffices ! (Run (w ∷ [])) (subst (λ (us : List Val). ent 𝓤 (Run (w ∷ [])) (Run us)) (sym (λ i. is i ++ [])) (id⊢ 𝓤 (Run (w ∷ [])))) $
    enter ! _ _ _ _ _ $ alloc_all ! (λ l. pass_all ! refl (typed, tt) $
    sets ! (of_opd ! (get ! refl)) refl typed $
    calls_at ! (framed 𝓤 𝓛.H 𝓜 𝓣) G
    (met 𝓤 𝓛 𝓜 𝓡 (code.calls-std_alloc::boxed::Box::into_raw_with_allocator 𝓡.env wired) T' A LT LA g d dd dx allocates drops drops_inner) z
    (and_then ! (get ! refl) (no_more !)) (λ u.
    use1 𝓛 (later (some (λ (r : Ptr × A.Denot). (alive ⊛ ‵ (Pair.own_val r (u ∷ []))) ⊛
    some (λ (ls : Lasts (callee.ended T' A g d dd dx) κs z.0.3). ‵ (lasts (callee.ended T' A g d dd dx) κs z.0.3 ls) ⊛
    (raw (fact 𝓤 (r.1 ≡ v.alloc)) ⊛ ‵ (Owned r.0)))))) (id⊢ 𝓤 (G.post z u)) $
    await ! tt $ pick ! (λ r. split ! $ split ! $ move ! (2 ∷ []) $ pick ! (λ ls. split3 ! $ drop ! $ heard ! (r.1 ≡ v.alloc) (λ same.
    in_a_block ! r.0 Owned (fst∗ 𝓤 (never 𝓤) (sem 𝓛 (g.dealloc_token v.alloc (bare (layout T')) null_ptr))) (λ b' o' at'.
    -- [the box in its block; the tokens; the pointer and the allocator], which land in one local
    move ! (2 ∷ []) $ fpick ! (λ uss. fsplit ! $ feq_l ! (λ eu. fsplit ! $ feq_l ! (λ ep. fsplit ! $
    rewrite ! 0 (λ (s : A.Denot). ‵ (A.own_val s uss.1.0)) same refl $ handle_tells (al R Z LZ g) ! v.alloc uss.1.0 (λ hv' eh fits'.
    let w' = parts_val hv' b' o' in let typed' = parts_value_fits_type R Z LZ g hv' b' o' fits' in
    lands_as ! (ap only (eu ∙ (λ i. vstruct (of_list ((ep ∙ ap (λ (q : Ptr). ptr_val q ∷ []) at') i ++ (eh i ++ []))) ∷ []))) refl typed' $
    sets ! (of_opd ! (get_in ! (fld ! refl (stop !)) (sub ! 0 refl (whole !)))) refl (tt, tt) $
    sets ! (of_opd ! (get_in ! (fld ! refl (stop !)) (sub ! 1 refl (whole !)))) refl fits' $
    sets ! (of_opd ! (get ! refl)) refl fits' $ sets ! (agg ! (and_then ! (get ! refl) (and_then ! (get ! refl) (no_more !)))) refl typed' $
    returns ! (look_at ! 0 refl) $ free_all ! refl $ move ! (2 ∷ 0 ∷ []) $ parts_value_is_put_together R Z LZ g ! b' o' hv' v.alloc v.value $
    use0 𝓛 (raw (fact 𝓤 (v.value ≡ v.value))) (fact_i 𝓤 (v.value ≡ v.value) (emp 𝓤) refl) $ nothing ! $ nothing ! $ fjoin ! $
    let made : (Parts R Z LZ g).Denot = record { ptr = block_ptr b' o'; alloc = v.alloc; value = v.value } in
    keep ! (4 ∷ 0 ∷ 2 ∷ 1 ∷ []) $ by ! (leaves 𝓛 En stayed c y w' made ((tt, (tt, tt)), tt) (tt, tt))))))))))))))
