-- `begins`: of two witnesses of one list the shorter begins the longer.
use Rattle.std.proofs.Common.{ℕ, List, [], ◌∷◌, refl}
use mathlib.Core.List.{IsPrefix}
use mir.Syntax.{a_type, named}
use mir.Val.{Val, vunit, vptr}
use mir.MapTy.{inst_fn}
use base.Logic.{SProp, emp}
use base.Fml.{Fml, ftrue, fsep, flft, fhide}
use types.Kit.{‵, raw, ◌⊛◌, given, ◌$◌, ◌∵◌, !, qed, by, move, keep, drop, split, fsplit, fjoin, learn, use1, use2, rewrite, feq_i}
use types.Run.{unit_lit, of_opd, returns, enter}
use types.ByLocal.{alloc_all, pass_all, free_all, look_at, sets, env}
use contract.Monad.{fact, fact_i}
use contract.Running.{tables}
use denote.Exit.{yes}
use denote.RattleType.{RattleType, owns}
use denote.Signature.{types_at, plain}
use denote.Builtin.{RefOf}
use denote.Ref.{shr_vals, shr_Tells}
use denote.Memory.{hidden_shr}
use denote.Opens.{unhide}
use denote.Steps.{nothing}
use denote.Param.{param, layouts}
use denote.Struct.Lending.{lent_out}
use denote.Triple.Walked.{Stays, stay_dropped, walk_of, Goes-dropped}
use Rattle.atomic_table.proofs.Walks.{proved}
use Rattle.logbook.proofs.Fields.{Token, ends}
use Rattle.disco_press.specs.MonotoneLists.{witness_owns}
use Rattle.disco_press.specs.contracts.monotone_list.PrefixWitness as PrefixWitness
use Rattle.disco_press.proofs.Steps as steps
use Rattle.std.specs.contracts.marker.PhantomData as marker
use Rattle.disco_press.specs.contracts.monotone_list.PrefixWitness.begins.{ended, clauses}
use Rattle.disco_press.specs.contracts.monotone_list.PrefixWitness.begins.Key.{name as #self}
use Rattle.disco_press.proofs.monotone_list.PrefixWitness.begins.Statement.{statement}
use Rattle.disco_press.proofs.monotone_list.PrefixWitness.begins.Code as code

pub begins_spec : {M : Type 1} → statement M
begins_spec 𝓤 𝓛 𝓜 𝓡 wired E _ =
    let H = 𝓛.H in let 𝓣 = tables 𝓤 H 𝓜 𝓡 𝓡.env in let E' : RattleType = param 0 E in let En = ended E in
    let inst = layouts (a_type ∷ []) (E, tt) in let fn = inst_fn inst code.function in let c = clauses E 𝓛 𝓜.mem 𝓡.returns in
    let cv = E'.coded in
    let hs : Stays En.signature.params En.kept = (stay_dropped (RefOf (0 ∷ []) tt (plain (λ _. PrefixWitness.the_row E')) (λ _. tt)) yes, (stay_dropped (RefOf (1 ∷ []) tt (plain (λ _. PrefixWitness.the_row E')) (λ _. tt)) yes, tt)) in
    proved 𝓛 En hs c 𝓜 𝓡 (Goes-dropped 𝓛 3 (RefOf (0 ∷ []) tt (plain (λ _. PrefixWitness.the_row E')) (λ _. tt)) yes (λ κs x f. refl), (Goes-dropped 𝓛 3 (RefOf (1 ∷ []) tt (plain (λ _. PrefixWitness.the_row E')) (λ _. tt)) yes (λ κs x f. refl), tt)) (#self inst) fn (code.unfolded 𝓤 H 𝓜 𝓡 wired (E, tt))
    (λ κs. (shr_vals, (shr_vals, tt))) (λ κs. (shr_Tells (named 0) κs.0 (PrefixWitness.the_row E'), (shr_Tells (named 1) κs.1.0 (PrefixWitness.the_row E'), tt))) (λ κs qs bounds a gh are.
    let me = a.0.now in let other = a.1.0.now in
    let y : (walk_of 𝓛 En hs c).Ghost = ((κs, qs, bounds, a, (vptr a.0.ref_ptr.0 a.0.ref_ptr.1 ∷ [], (vptr a.1.0.ref_ptr.0 a.1.0.ref_ptr.1 ∷ [], tt))), gh) in let Post : Val → SProp 𝓤 = (walk_of 𝓛 En hs c).post y in let toks : Fml = fsep (flft κs.0 qs.0) (fsep (flft κs.1.0 qs.1.0) (fsep (flft κs.1.1.0 qs.1.1.0) ftrue)) in
    qed 𝓛 ((‵ toks ⊛ ‵ (owns (types_at En.signature.params κs) a y.0.4)) ∷ raw (fact 𝓤 _) ∷ given _ (‵ ftrue) ∷ []) ∵ keep ! (2 ∷ 0 ∷ []) $ learn ! (λ asked. drop ! $ split ! $
    fsplit ! $ move ! (1 ∷ []) $ fsplit ! $ move ! (3 ∷ []) $ fsplit ! $ fsplit ! $ move ! (2 ∷ []) $ fsplit ! $ fsplit ! $ keep ! (4 ∷ 1 ∷ 5 ∷ 6 ∷ 7 ∷ []) $
    enter ! 𝓣.C 𝓣.Λ fn (vptr a.0.ref_ptr.0 a.0.ref_ptr.1 ∷ vptr a.1.0.ref_ptr.0 a.1.0.ref_ptr.1 ∷ []) Post $ alloc_all ! (λ l. pass_all ! refl ((tt, tt), ((tt, tt), tt)) $ let Ev = env fn.locals l in
    use1 𝓛 (‵ (hidden_shr (Token E') κs.0 (record {}, tt) a.0.ref_ptr.0 a.0.ref_ptr.1) ⊛ ‵ (fhide (witness_owns cv.code me.name me.items))) (lent_out 𝓛 (PrefixWitness.struct E') (PrefixWitness.the_codes E.Denot E'.coded (marker.the_row E').coded) (PrefixWitness.the_heap E') (PrefixWitness.the_lent E') κs.0 me a.0.ref_ptr.0 a.0.ref_ptr.1) $ split ! $ drop ! $ unhide ! $ move ! (1 ∷ []) $
    use1 𝓛 (‵ (hidden_shr (Token E') κs.1.0 (record {}, tt) a.1.0.ref_ptr.0 a.1.0.ref_ptr.1) ⊛ ‵ (fhide (witness_owns cv.code other.name other.items))) (lent_out 𝓛 (PrefixWitness.struct E') (PrefixWitness.the_codes E.Denot E'.coded (marker.the_row E').coded) (PrefixWitness.the_heap E') (PrefixWitness.the_lent E') κs.1.0 other a.1.0.ref_ptr.0 a.1.0.ref_ptr.1) $ split ! $ drop ! $ unhide ! $ rewrite ! 0 (λ (z : ℕ). ‵ (witness_owns cv.code z other.items)) asked.0 refl $ move ! (1 ∷ 0 ∷ []) $
    use2 𝓛 (given (IsPrefix me.items other.items) (‵ ftrue)) (steps.compares 𝓛 cv me.name me.items other.items asked.1) $ learn ! (λ so. drop ! $ sets ! (of_opd ! (unit_lit !)) refl (tt, tt) $ feq_i ! (List Val) (vunit ∷ []) (vunit ∷ []) refl $
    move ! (1 ∷ 2 ∷ []) $ fjoin ! $ move ! (2 ∷ 0 ∷ []) $ fjoin ! $ nothing ! $ nothing ! $ fjoin ! $ nothing ! $ fjoin ! $
    returns ! (look_at ! 0 refl) $ free_all ! refl $ keep ! (1 ∷ 0 ∷ 2 ∷ []) $ by ! (ends 𝓛 En hs c y (vunit) (tt) (tt, (tt, tt)) (tt, (tt, tt)) (fact_i 𝓤 _ (emp 𝓤) (so)))))))
