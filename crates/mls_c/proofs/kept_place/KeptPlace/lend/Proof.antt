-- `lend` lends what lies at the address, and the handle's part ends with the last of it.
use Rattle.std.proofs.Common.{◌≡◌, ℕ, List, [], ◌∷◌, refl, sym, ap, ◌∙◌, MutBor}
use base.Fraction.{full_share}
use mir.Syntax.{named}
use mir.Val.{Val, vptr}
use base.Logic.{ent, sep, fst∗, never, id⊢}
use base.Fml.{GName, Fml, ftrue, flft, fsep}
use prog.Wp.{Env}
use mir.Raw.{raw as bare}
use seplogic.Ra.Ura.{Ura}
use types.Logic.{Logic, sem}
use types.Kit.{at_ret, ‵, ◌⊛◌, ◌$◌, ◌∵◌, !, qed, move, keep, use1, drop, split, pick, join, fsplit, fsplit3, fjoin, fpack, raw, rewrite, suffices, frame, done, some, later, await, group}
use types.Part.{whole, sub, look_in}
use types.Run.{stop, fld, load, of_opd, first, blocks, exec, returns, enter, addr}
use types.ByLocal.{alloc_all, pass_all, free_all, look_at, get, through, sets, sets_last, env}
use contract.Monad.{fact}
use contract.Running.{tables}
use denote.Exit.{no}
use denote.Follow.{follows, Part, lends_Part}
use denote.Laws.{Is, shows}
use denote.RattleType.{RattleType, owns}
use denote.Memory.{part_at, part_of, mem, cell_at, lone}
use denote.RawPtr.{Ptr, block_ptr, null_ptr, in_a_block}
use denote.Ref.{MutRef, mut_vals, mut_Tells}
use denote.Signature.{plain, mut_ref_to}
use denote.Steps.{heard, nothing, opens, peeks}
use denote.Struct.Struct.{Struct}
use denote.Struct.Owning.{shape, to}
use denote.Triple.Walked.{says, Stays, stay_dropped, walk_of, ends_at, Goes-spent_ref}
use Rattle.std.proofs.alloc.Shapes.{after}
use Rattle.std.proofs.raw_atomic.Walks.{proved}
use Rattle.std.specs.Prelude.{Option, IsSome}
use Rattle.std.specs.Box.Ownership.{box_owns}
use Rattle.std.specs.contracts.impls.GlobalAllocator.TheImpl.{ghosts}
use Rattle.mls_c.specs.Offices.{Place}
use Rattle.mls_c.specs.OfficeHandles.{owns_place}
use Rattle.mls_c.specs.OfficeLending.{with_place}
use Rattle.mls_c.specs.contracts.place.Place as place
use Rattle.mls_c.specs.contracts.kept_place.KeptPlace as kept
use Rattle.mls_c.proofs.kept_place.KeptPlace.TheLaws as kept_laws
use Rattle.mls_c.proofs.PlacePointers.{some_of, word}
use Rattle.mls_c.specs.contracts.kept_place.KeptPlace.lend as F
use Rattle.mls_c.specs.contracts.kept_place.KeptPlace.lend.Key.{name as #self}
use Rattle.mls_c.proofs.kept_place.KeptPlace.lend.Statement.{statement}
use Rattle.mls_c.proofs.kept_place.KeptPlace.lend.Code as code

abbrev B : RattleType
B = kept.the_row

abbrev R : RattleType
R = place.the_row

abbrev Words : RattleType
Words = Struct (shape kept.the_type)

abbrev stayed : Stays (F.ended).signature.params (F.ended).kept
stayed = (stay_dropped (mut_ref_to (0 ∷ []) tt (plain (λ _. B))) no, tt)

-- the right to free the block
abbrev token : Ptr → Fml
token p = ghosts.dealloc_token _ (bare (lone R.mir)) p

-- all of the handle's part but the session
abbrev Rest : B.Denot → ℕ → ℕ → ℕ → ℕ → Fml
Rest d b o rb ro = let vs = word (block_ptr b o) ∷ [] in
    fsep (fsep (token (block_ptr b o)) (Words.own_val (to kept.the_type d) vs)) (cell_at full_share B.mir vs rb ro)

back : {M : Type 1} {𝓤 : Ura M} (𝓛 : Logic 𝓤) (d : B.Denot) (b o rb ro : ℕ) → d.at ≡ block_ptr b o → (w : Place)
    → ent 𝓤 (sep 𝓤 (sem 𝓛 ((mem R).own_at w b o)) (sem 𝓛 (Rest d b o rb ro))) (sem 𝓛 ((mem B).own_at (with_place d w) rb ro))
unfolding part_of
back 𝓛 d b o rb ro e w =
    let vs = word (block_ptr b o) ∷ [] in
    qed 𝓛 (‵ (part_at R full_share w b o) ∷ ‵ (Rest d b o rb ro) ∷ []) ∵ move ! (1 ∷ []) $ fsplit ! $ fsplit ! $ move ! (3 ∷ 0 ∷ []) $ fjoin ! $
    rewrite ! 0 (λ (p : Ptr). ‵ (box_owns (ghosts.dealloc_token _) R p w)) (sym e) refl $ move ! (1 ∷ 0 ∷ []) $ fjoin ! $ move ! (1 ∷ 0 ∷ []) $ fjoin ! $
    fpack ! (List Val) (λ us. fsep (cell_at full_share B.mir us rb ro) (B.own_val (with_place d w) us)) vs $ done !

pub lend_spec : {M : Type 1} → statement M
lend_spec {M} 𝓤 𝓛 𝓜 𝓡 wired =
    let H = 𝓛.H in let c = F.clauses 𝓛 𝓜.mem 𝓡.returns in let W = walk_of 𝓛 F.ended stayed c in let 𝓣 = tables 𝓤 H 𝓜 𝓡 𝓡.env in let fn = code.function in
    proved 𝓛 F.ended stayed c 𝓜 𝓡 (Goes-spent_ref 𝓛 1 (0 ∷ []) tt (plain (λ _. B)), tt) #self fn (code.unfolded 𝓤 H 𝓜 𝓡 wired)
    (λ κs. (mut_vals, tt)) (λ κs. (mut_Tells (named 0) κs.0 B, tt)) (λ κs qs bounds a g are.
    let κ = κs.0 in let q = qs.0 in let rb = a.0.ref_ptr.0 in let ro = a.0.ref_ptr.1 in let γ = a.0.ghost_name in let d = a.0.now in let vs = mut_vals a.0 in
    let y : W.Ghost = ((κs, qs, bounds, a, (vs, tt)), g) in
    qed 𝓛 (((‵ (flft κ q) ⊛ ‵ ftrue) ⊛ ‵ (owns (MutRef (named 0) κ B ∷ []) a (vs, tt))) ∷ raw (fact 𝓤 (IsSome d.value)) ∷ []) ∵
    move ! (1 ∷ []) $ heard ! (IsSome d.value) (λ is. let had = some_of d.value is in let m = had.0 in
    enter ! 𝓣.C 𝓣.Λ fn (vptr rb ro ∷ []) _ $ alloc_all ! (λ l. pass_all ! refl ((tt, tt), tt) $ let En : Env 𝓤 H = env fn.locals l in
    split ! $ split ! $ move ! (2 ∷ []) $ fsplit ! $ fsplit3 ! $ drop ! $
    -- [what is seen; the borrow; true; alive; true]
    move ! (0 ∷ 1 ∷ 3 ∷ []) $ opens ! tt B {h = d} rb ro (λ us.
    move ! (1 ∷ []) $ peeks ! B (Is B) (shows 𝓛 B) d us (λ is'. fsplit ! $ move ! (1 ∷ []) $
    rewrite ! 0 (λ (x : Option Place). ‵ (owns_place d.at x)) had.1 refl $
    in_a_block ! d.at (λ p. box_owns (ghosts.dealloc_token _) R p m) (fst∗ 𝓤 (never 𝓤) (sem 𝓛 (token null_ptr))) (λ b o e. fsplit ! $
    let ws : us ≡ word (block_ptr b o) ∷ [] = kept_laws.lowers.val_is d us is' ∙ ap (λ (p : Ptr). word p ∷ []) e in
    let rest = Rest d b o rb ro in let part = back 𝓛 d b o rb ro e in
    rewrite ! 2 (λ (vs' : List Val). ‵ (Words.own_val (to kept.the_type d) vs')) ws refl $ rewrite ! 3 (λ (vs' : List Val). ‵ (cell_at full_share B.mir vs' rb ro)) ws refl $
    move ! (1 ∷ 2 ∷ []) $ fjoin ! $ move ! (1 ∷ []) $
    -- [the session; the right to free it with the fields; the cell; the open borrow, in three entries; true; true]
    first ! $ blocks ! $ sets ! (of_opd ! (load ! (through ! refl (fld ! refl (stop !))) (look_in ! 2 (sub ! 0 refl (whole !))))) refl (tt, tt) $
    sets_last ! (addr ! (through ! refl (stop !))) refl (tt, tt) $ exec ! 𝓣.C 𝓣.Λ En (after 1 fn.body) (at_ret En (W.post y)) $ sets ! (of_opd ! (get ! refl)) refl (tt, tt) $
    move ! (1 ∷ 2 ∷ []) $ fjoin ! $ move ! (2 ∷ 3 ∷ 4 ∷ 1 ∷ 0 ∷ []) $ group ! 5 $
    use1 𝓛 (later (some (λ (γ' : GName). raw (Part 𝓛 B R (with_place d) (named 0) κ q rb ro b o γ (sem 𝓛 rest) part m γ'))))
    (lends_Part 𝓛 B R (with_place d) (named 0) κ q rb ro b o γ (sem 𝓛 rest) part (B.coded.code d) (B.coded.code d) m) $ await ! tt $ pick ! (λ γ'.
    returns ! (look_at ! 0 refl) $ free_all ! refl $ keep ! (0 ∷ []) $
    let at : MutBor Place = record { ref_ptr = (b, o); ghost_name = γ'; now = m } in
    use1 𝓛 (‵ ((MutRef (named 0) κ R).own_val at (vptr b o ∷ [])) ⊛ (‵ (flft κ q) ⊛ ‵ (follows B R γ γ' (with_place d)))) (id⊢ 𝓤 _) $ split ! $ move ! (1 ∷ []) $ split ! $ move ! (2 ∷ 0 ∷ 1 ∷ []) $
    suffices ! _ (ends_at 𝓛 F.ended stayed c y (vptr b o) at (tt, tt) (tt, tt)) $
    nothing ! $ nothing ! $ fjoin ! $ join ! $ nothing ! $ move ! (2 ∷ 0 ∷ []) $ join ! $ join ! $ frame ! $ says ! (sym had.1) $ done !)))))))
