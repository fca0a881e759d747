-- `into_box` makes the box again.
use Rattle.std.proofs.Common.{List, [], ◌∷◌, ◌++◌, ◌≡◌, refl, sym, ap, subst}
use Rattle.std.proofs.alloc.Calls.{Goes-blank}
use Rattle.std.proofs.alloc.Shapes.{after}
use Rattle.std.proofs.BoxSteps.Form as box
use Rattle.std.proofs.BoxSteps.Steps.{box_out, box_in}
use Rattle.std.proofs.raw_atomic.Walks.{proved_at, leaves}
use base.Logic.{SProp, ent, id⊢}
use base.Fml.{ftrue, flft}
use contract.BorrowLft.{◌⊑◌}
use contract.Monad.{fact}
use contract.Running.{tables}
use lib.Dec.{T}
use mir.MapTy.{inst_fn}
use mir.Syntax.{a_type, dcons, dnil}
use mir.Val.{Val, vptr, has_ty, WT}
use prog.Wp.{WpFn}
use types.Kit.{‵, raw, ◌⊛◌, some, later, at_ret, ◌$◌, ◌∵◌, !, qed, by, move, keep, drop}
use types.Kit.{split, split3, join, fsplit, fjoin, pick, suffices, use1, await, rewrite, feq_i}
use types.Part.{sub, whole}
use types.Run.{stop, fld, of_opd, no_more, and_then, first, blocks, exec, returns, enter}
use types.ByLocal.{alloc_all, pass_all, free_all, look_at, get, get_in, sets, lands_last, env}
use denote.Exit.{no}
use denote.Param.{param, layout, bounded}
use denote.Param.Laws.{param_laws}
use denote.RattleType.{RattleType, owns}
use denote.RawPtr.{block_ptr}
use denote.Signature.{types_at, plain}
use denote.Steps.{nothing, only}
use denote.Triple.Call.{calls_at_last}
use denote.Triple.Clauses.{Lasts, lasts}
use denote.Triple.Spec.{triple_of}
use denote.Triple.Table.{framed}
use denote.Triple.Walked.{Stays, stay_dropped, walk_of}
use Rattle.std.specs.contracts.boxed.Box.from_raw as callee
use Rattle.std.proofs.boxed.Box.from_raw.Met.{met}
use Rattle.am_c.proofs.Boxes.{Parts, parts_val, parts_value_fits_type, parts_value_is_taken_apart}
use Rattle.am_c.specs.contracts.parts.RawBox.into_box as f
use Rattle.am_c.proofs.parts.RawBox.into_box.Statement.{statement}
use Rattle.am_c.proofs.parts.RawBox.into_box.Code as code

pub into_box_spec : {M : Type 1} → statement M
into_box_spec 𝓤 𝓛 𝓜 𝓡 wired T' A LT LA g d dd allocates drops =
    let R : RattleType = param 0 T' in let Z : RattleType = param 1 A in let P : RattleType = Parts R Z (param_laws 1 A LA) g in
    let En = f.ended T' A g d dd in let c = f.clauses T' A g d dd 𝓛 𝓜.mem 𝓡.returns in let 𝓣 = tables 𝓤 𝓛.H 𝓜 𝓡 𝓡.env in
    let args = bounded (a_type ∷ a_type ∷ []) (T', (A, tt)) (dcons d (dcons dd dnil)) in let fn = inst_fn args code.function in
    let E : box.Bx = record { row = T'; laws = LT; al = record { row = A; laws = LA; g = g; d = d; drops = dd } } in let B : RattleType = box.B E in
    let stayed : Stays En.signature.params En.kept = (stay_dropped (plain (λ _. P)) no, tt) in
    proved_at 𝓛 En stayed c 𝓜 𝓡 (Goes-blank 𝓛 2 (plain (λ _. P)) no (λ κs x w. tt), tt)
    (f.Key.name args) fn (code.unfolded 𝓤 𝓛.H 𝓜 𝓡 wired (T', (A, tt)) d dd) (λ y are.
    let κs = y.0.0 in let qs = y.0.1 in let v = y.0.3.0 in
    let Post : Val → SProp 𝓤 = (walk_of 𝓛 En stayed c).post y in let Run : List Val → SProp 𝓤 = λ ws. WpFn 𝓤 𝓛.H 𝓣.C 𝓣.Λ fn ws Post in
    let alive = ‵ (flft κs.0 qs.0) ⊛ ‵ (flft κs.1.0 qs.1.0) ⊛ ‵ ftrue in
    qed 𝓛 ((alive ⊛ ‵ (owns (types_at En.signature.params κs) y.0.3 y.0.4)) ∷ raw ((c κs y.0.3).requires y.1) ∷ []) ∵
    split ! $ move ! (1 ∷ []) $ fsplit ! $ parts_value_is_taken_apart R Z (param_laws 1 A LA) g ! v y.0.4.0 (λ b o hv at is fits.
    -- [the box in its block; the allocator; nothing; the tokens; what is required]: the call takes all of it
    let w : Val = parts_val hv b o in let typed = parts_value_fits_type R Z (param_laws 1 A LA) g hv b o fits in
    let G = triple_of 𝓛 (callee.signature T' A g d dd) (callee.spec T' A g d dd 𝓛 𝓜.mem 𝓡.returns) in
    let z : G.Ghost = ((κs, qs, tt, (v.alloc, (block_ptr b o, tt)), (hv ∷ [], (vptr b o ∷ [], tt))), v.value) in
    move ! (4 ∷ []) $ use1 𝓛 (raw (fact 𝓤 (κs.0 ⊑ T'.lives)) ⊛ raw (fact 𝓤 (κs.1.0 ⊑ A.lives)) ⊛ ‵ ftrue) (id⊢ 𝓤 _) $ split3 ! $
    move ! (1 ∷ 3 ∷ []) $ join ! $ move ! (1 ∷ 0 ∷ []) $ join ! $
    feq_i ! (List Val) (vptr b o ∷ []) (vptr b o ∷ []) refl $ move ! (0 ∷ 4 ∷ []) $ fjoin ! $
    move ! (3 ∷ 0 ∷ []) $ fjoin ! $ move ! (3 ∷ 0 ∷ 1 ∷ []) $ join ! $ join ! $
    use1 𝓛 (raw (G.pre z)) (id⊢ 𝓤 _) $
    suffices ! (Run (w ∷ [])) (subst (λ (us : List Val). ent 𝓤 (Run (w ∷ [])) (Run us)) (sym (λ i. is i ++ [])) (id⊢ 𝓤 (Run (w ∷ [])))) $
    enter ! _ _ _ _ _ $ alloc_all ! (λ l. pass_all ! refl (typed, tt) $
    sets ! (of_opd ! (get_in ! (fld ! refl (stop !)) (sub ! 0 refl (whole !)))) refl (tt, tt) $
    sets ! (of_opd ! (get_in ! (fld ! refl (stop !)) (sub ! 1 refl (whole !)))) refl fits $
    first ! $ blocks ! $ sets ! (of_opd ! (get ! refl)) refl fits $
    calls_at_last ! (framed 𝓤 𝓛.H 𝓜 𝓣) G (met 𝓤 𝓛 𝓜 𝓡 (code.calls-std_alloc::boxed::Box::from_raw 𝓡.env wired) T' A LT LA g d dd allocates drops) z
    (and_then ! (get ! refl) (and_then ! (get ! refl) (no_more !))) (λ u.
    use1 𝓛 (later (some (λ (r : B.Denot). (alive ⊛ ‵ (B.own_val r (u ∷ []))) ⊛
    some (λ (ls : Lasts (callee.ended T' A g d dd) κs z.0.3). ‵ (lasts (callee.ended T' A g d dd) κs z.0.3 ls) ⊛
    (raw (fact 𝓤 (r.value ≡ v.value)) ⊛ raw (fact 𝓤 (r.alloc ≡ v.alloc))))))) (id⊢ 𝓤 (G.post z u)) $
    await ! tt $ pick ! (λ r. split ! $ split ! $ move ! (1 ∷ []) $ box_out E ! r (u ∷ []) (λ b' o' hv' at' is' fits'. box_in E ! r b' o' r.value at' refl $
    rewrite ! 0 (λ (ws : List Val). ‵ (B.own_val r ws)) (sym is') refl $
    let good : T (has_ty (layout B) u) × WT u = subst (λ (x : Val). T (has_ty (layout B) x) × WT x) (sym (ap only is'))
    (parts_value_fits_type R Z (param_laws 1 A LA) g hv' b' o' fits') in
    move ! (2 ∷ []) $ pick ! (λ ls. split3 ! $ drop ! $
    lands_last ! refl good $ exec ! 𝓣.C 𝓣.Λ (env fn.locals l) (after 3 fn.body) (at_ret (env fn.locals l) Post) $
    sets ! (of_opd ! (get ! refl)) refl good $ returns ! (look_at ! 0 refl) $ free_all ! refl $
    -- [the value; the allocator; the box; the tokens]
    nothing ! $ nothing ! $ fjoin ! $ keep ! (4 ∷ 0 ∷ 3 ∷ 1 ∷ []) $ by ! (leaves 𝓛 En stayed c y u r ((tt, (tt, tt)), tt) (tt, tt)))))))))
