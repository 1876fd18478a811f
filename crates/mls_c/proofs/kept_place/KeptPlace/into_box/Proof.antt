-- `into_box` makes a box of the address, which owns what lies there.
use Rattle.std.proofs.Common.{◌≡◌, List, [], ◌∷◌, refl, sym, ap, ◌∙◌}
use base.Fraction.{full_share}
use base.Logic.{emp, id⊢}
use base.Fml.{ftrue, flft}
use mir.Val.{Val}
use types.Kit.{‵, raw, ◌⊛◌, some, later, at_ret, ◌$◌, ◌∵◌, !, qed, by, move, drop, split, split3, join, fsplit, fjoin, pick, use0, use1, await, rewrite, feq_i}
use types.Part.{sub, whole}
use types.Run.{stop, fld, of_opd, no_more, and_then, first, blocks, exec, returns, enter}
use types.ByLocal.{alloc_all, pass_all, free_all, look_at, get, get_in, sets, lands_last, env}
use contract.BorrowLft.{◌⊑◌}
use contract.Monad.{fact, fact_i}
use contract.Running.{tables}
use denote.Laws.{Is, shows}
use denote.RattleType.{RattleType, owns}
use denote.RawPtr.{ptr_val}
use denote.Signature.{plain, types_at}
use denote.Steps.{nothing, heard, peeks}
use denote.Triple.Call.{calls_at_last}
use denote.Triple.Clauses.{Lasts, lasts}
use denote.Triple.Entry.{alive}
use denote.Triple.Spec.{triple_of}
use denote.Triple.Table.{framed}
use denote.Triple.Walked.{Stays, stay_dropped, walk_of}
use Rattle.std.specs.Prelude.{Option, Some, IsSome}
use Rattle.std.specs.contracts.alloc.Global as global
use Rattle.std.proofs.alloc.Global.TheLaws as global_laws
use Rattle.std.specs.contracts.impls.GlobalAllocator.TheImpl.{ghosts, dict}
use Rattle.std.proofs.impls.GlobalAllocator.TheImpl.Met as heap
use Rattle.std.proofs.alloc.Calls.{Goes-blank}
use Rattle.std.proofs.alloc.Shapes.{after}
use Rattle.std.proofs.raw_atomic.Walks.{proved, leaves}
use Rattle.std.specs.contracts.boxed.Box.from_raw as from_raw
use Rattle.std.proofs.boxed.Box.from_raw.Met.{met}
use Rattle.mls_c.specs.Offices.{Place}
use Rattle.mls_c.specs.OfficeHandles.{owns_place}
use Rattle.mls_c.specs.contracts.place.Place as place
use Rattle.mls_c.proofs.place.Place.TheLaws as place_laws
use Rattle.mls_c.specs.contracts.kept_place.KeptPlace as kept
use Rattle.mls_c.proofs.kept_place.KeptPlace.TheLaws as kept_laws
use Rattle.mls_c.proofs.PlaceBoxes.{Boxed, boxed_lawful, Heap, heap_laws, Monitor, monitor_laws, heap_drop, heap_goes}
use Rattle.mls_c.proofs.PlacePointers.{some_of}
use Rattle.mls_c.specs.contracts.kept_place.KeptPlace.into_box.{ended, clauses}
use Rattle.mls_c.specs.contracts.kept_place.KeptPlace.into_box.Key.{name as #self}
use Rattle.mls_c.proofs.kept_place.KeptPlace.into_box.Statement.{statement}
use Rattle.mls_c.proofs.kept_place.KeptPlace.into_box.Code as code

pub into_box_spec : {M : Type 1} → statement M
into_box_spec {M} 𝓤 𝓛 𝓜 𝓡 wired =
    let H = 𝓛.H in let 𝓣 = tables 𝓤 H 𝓜 𝓡 𝓡.env in let c = clauses 𝓛 𝓜.mem 𝓡.returns in let fn = code.function in
    let R = place.the_row in let Z = global.the_row in let B : RattleType = Boxed in
    let hs : Stays ended.signature.params ended.kept = (stay_dropped (plain (λ _. kept.the_row)) ended.kept.0, (stay_dropped (plain (λ _. Z)) ended.kept.1.0, tt)) in let W = walk_of 𝓛 ended hs c in
    let called = from_raw.ended Monitor Heap ghosts dict heap_drop in let C = triple_of 𝓛 called.signature (from_raw.spec Monitor Heap ghosts dict heap_drop 𝓛 𝓜.mem 𝓡.returns) in
    proved 𝓛 ended hs c 𝓜 𝓡 (Goes-blank 𝓛 0 (plain (λ _. kept.the_row)) ended.kept.0 (λ κs x f. tt), (Goes-blank 𝓛 0 (plain (λ _. Z)) ended.kept.1.0 (λ κs x f. tt), tt)) #self fn (code.unfolded 𝓤 H 𝓜 𝓡 wired)
    (λ κs. ((λ d. kept_laws.lowered d ∷ []), ((λ d. global_laws.lowered d ∷ []), tt))) (λ κs. (kept_laws.lowers.val_is, (global_laws.lowers.val_is, tt))) (λ κs qs bounds a g are.
    let v = a.0 in let h : Val = global_laws.lowered a.1.0 in let w : Val = kept_laws.lowered v in let y : W.Ghost = ((κs, qs, bounds, a, (w ∷ [], (h ∷ [], tt))), g) in
    qed 𝓛 ((raw (alive 𝓛 ended.signature κs qs) ⊛ ‵ (owns (types_at ended.signature.params κs) a y.0.4)) ∷ raw (fact 𝓤 (IsSome v.value)) ∷ []) ∵ move ! (1 ∷ []) $ heard ! (IsSome v.value) (λ is. let had = some_of v.value is in let m = had.0 in
    let x : C.Ghost = ((([], ([], tt)), (full_share, (full_share, tt)), tt, (a.1.0, (v.at, tt)), (h ∷ [], (ptr_val v.at ∷ [], tt))), m) in
    let tok = ‵ (flft [] full_share) in let static = 𝓛.lfts.lft-nil full_share in
    split ! $ move ! (1 ∷ []) $ fsplit ! $ fsplit ! $ drop ! $ rewrite ! 0 (λ (o : Option Place). ‵ (owns_place v.at o)) had.1 refl $
    -- [what lies there; the heap's handle; alive]
    use0 𝓛 (raw (fact 𝓤 ([] ⊑ Z.lives))) (fact_i 𝓤 _ (emp 𝓤) (global_laws.the_within [])) $ join ! $
    use0 𝓛 (raw (fact 𝓤 ([] ⊑ R.lives))) (fact_i 𝓤 _ (emp 𝓤) (place_laws.the_within [])) $ join ! $
    move ! (1 ∷ []) $ fsplit ! $ move ! (1 ∷ []) $ feq_i ! (List Val) (ptr_val v.at ∷ []) (ptr_val v.at ∷ []) refl $ fjoin ! $ move ! (1 ∷ 0 ∷ []) $ fjoin ! $
    nothing ! $ use0 𝓛 tok static $ join ! $ use0 𝓛 tok static $ join ! $ join ! $ join ! $ use1 𝓛 (raw (C.pre x)) (id⊢ 𝓤 _) $
    enter ! 𝓣.C 𝓣.Λ fn (w ∷ h ∷ []) (W.post y) $ alloc_all ! (λ l. pass_all ! refl (((kept_laws.the_row_laws.lawful 𝓛).typed v (w ∷ []) are.0).0, (((global_laws.the_row_laws.lawful 𝓛).typed a.1.0 (h ∷ []) are.1.0).0, tt)) $ first ! $ blocks ! $
    calls_at_last ! (framed 𝓤 H 𝓜 𝓣) C (met 𝓤 𝓛 𝓜 𝓡 (code.calls-std_alloc::boxed::Box::from_raw 𝓡.env wired) Monitor Heap monitor_laws heap_laws ghosts dict heap_drop
    (heap.passed 𝓡.env (code.calls-std_heap::GlobalAllocator::allocate 𝓡.env wired) (code.calls-std_heap::GlobalAllocator::deallocate 𝓡.env wired) (code.calls-std_heap::GlobalAllocator::grow 𝓡.env wired) (code.calls-std_heap::GlobalAllocator::shrink 𝓡.env wired) M 𝓤 𝓛 𝓜 𝓡)
    (heap_goes 𝓤 𝓛 𝓜 𝓡 (code.calls-mls_c::Destruct++none::drop 𝓡.env wired))) x (and_then ! (get ! refl) (and_then ! (get_in ! (fld ! refl (stop !)) (sub ! 0 refl (whole !))) (no_more !))) (λ u.
    use1 𝓛 (later (some (λ (r : B.Denot). ((tok ⊛ tok ⊛ ‵ ftrue) ⊛ ‵ (B.own_val r (u ∷ []))) ⊛ some (λ (ls : Lasts called x.0.0 x.0.3). ‵ (lasts called x.0.0 x.0.3 ls) ⊛ (raw (fact 𝓤 (r.value ≡ m)) ⊛ raw (fact 𝓤 (r.alloc ≡ a.1.0))))))) (id⊢ 𝓤 _) $
    await ! tt $ pick ! (λ r. split ! $ move ! (1 ∷ []) $ pick ! (λ _. split3 ! $ drop ! $ heard ! (r.value ≡ m) (λ same. drop ! $ split ! $ drop ! $
    peeks ! B (Is B) (shows 𝓛 B) r (u ∷ []) (λ one. let good = ((boxed_lawful 𝓛).typed r (u ∷ []) one).0 in
    lands_last ! refl good $ exec ! 𝓣.C 𝓣.Λ (env fn.locals l) (after 1 fn.body) (at_ret (env fn.locals l) (W.post y)) $ sets ! (of_opd ! (get ! refl)) refl good $ returns ! (look_at ! 0 refl) $ free_all ! refl $
    use0 𝓛 (raw (fact 𝓤 (Some r.value ≡ v.value))) (fact_i 𝓤 _ (emp 𝓤) (ap Some same ∙ sym had.1)) $ nothing ! $ nothing ! $ fjoin ! $ nothing ! $ fjoin ! $ move ! (3 ∷ 0 ∷ 2 ∷ 1 ∷ []) $
    by ! (leaves 𝓛 ended hs c y u r (tt, (tt, tt)) (tt, (tt, tt)))))))))))
