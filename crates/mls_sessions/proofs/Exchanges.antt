-- What is asked and answered, one after the other, and what of it stands in a journal.
use Rattle.std.proofs.Common.{◌≡◌, ℕ, ◌+◌, ◌<◌, Bool, List, [], ◌∷◌, ◌++◌, length, take, get_or, refl, sym, ap, ◌∙◌, subst, append-nil, append_assoc}
use Rattle.std.proofs.lemmas.List.{map-append, take_more}
use Rattle.std.specs.FinSet as set
use Rattle.mls_tables.specs.declared.mode.Mode.{Mode}
use Rattle.mls_state.specs.State.{State}
use Rattle.mls_requests.specs.declared.ask.Ask.{Ask}
use Rattle.mls_requests.specs.declared.ask.Ask.TheVariants.{Submit, Check}
use Rattle.mls_requests.specs.declared.entry.Entry.{Entry}
use Rattle.mls_requests.specs.declared.request.Request.{Request}
use Rattle.mls_monitor.specs.Journal.{fold}
use Rattle.mls_turns.specs.Journals.{Journal, journal, Appends}
use Rattle.mls_monitor.specs.Entries.{of_session}
use Rattle.mls_sessions.specs.Feeds.{Gets, GetsMore, AllGet}
use Rattle.mls_monitor.specs.Feeds.{Exchange, IsTold, AreTold}
use Rattle.mls_monitor.specs.declared.feed.Answer.{Answer as Told}
use Rattle.mls_monitor.specs.declared.feed.Answer.TheVariants as told
use Rattle.mls_sessions.proofs.OwnEntries.{own-append, all-append}

-- exchanges, one after the other
module _ (start : State) (k : ℕ) where
  no_more : (xs ys : List Entry) → of_session k xs ≡ [] → of_session k ys ≡ [] → of_session k (xs ++ ys) ≡ []
  no_more xs ys none nor = own-append k xs ys ∙ ap (λ es. es ++ of_session k ys) none ∙ nor

  -- what others made before it counts to an exchange
  told_wider : (before since : List Entry) (a : Ask) (t : Told) (more : List Entry) → of_session k since ≡ [] → IsTold start k (before ++ since) a t more → IsTold start k before a t (since ++ more)
  told_wider before since (Submit r) (told.Entry e) more none is =
      (since ++ is.0, ap (λ es. since ++ es) is.1 ∙ sym (append_assoc since is.0 (e ∷ [])), no_more since is.0 none is.2, is.3, is.4)
  told_wider before since (Submit r) (told.Held held) more none is = absurd is
  told_wider before since (Check u v x) (told.Entry e) more none is = absurd is
  told_wider before since (Check u v x) (told.Held held) more none is =
      (no_more since more none is.0, is.1 ∙ ap (λ es. set.contains (fold start es).accesses (u, v, x)) (append_assoc before since more))

  told_more : (before since : List Entry) (xs : List Exchange) (a : Ask) (t : Told) (more : List Entry) → AreTold start k before since xs → IsTold start k (before ++ since) a t more
      → AreTold start k before (since ++ more) (xs ++ (a, t) ∷ [])
  told_more before since [] a t more are is = (since ++ more, [], sym (append-nil (since ++ more)), told_wider before since a t more are is, refl)
  told_more before since (x ∷ xs) a t more are is = (
    are.0,
    are.1 ++ more,
    ap (λ es. es ++ more) are.2 ∙ append_assoc are.0 are.1 more,
    are.3,
    told_more (before ++ are.0) are.1 xs a t more are.4 (subst (λ es. IsTold start k es a t more) (ap (λ es. before ++ es) are.2 ∙ sym (append_assoc before are.0 are.1)) is),
  )

  -- others may go on
  pub told_longer : (before since more : List Entry) (xs : List Exchange) → AreTold start k before since xs → of_session k more ≡ [] → AreTold start k before (since ++ more) xs
  told_longer before since more [] are none = no_more since more are none
  told_longer before since more (x ∷ xs) are none =
      (are.0, are.1 ++ more, ap (λ es. es ++ more) are.2 ∙ append_assoc are.0 are.1 more, are.3, told_longer (before ++ are.0) are.1 more xs are.4 none)

  -- others were there before
  pub told_after_others : (before between since : List Entry) (xs : List Exchange) → of_session k between ≡ [] → AreTold start k (before ++ between) since xs → AreTold start k before (between ++ since) xs
  told_after_others before between since [] none are = no_more between since none are
  told_after_others before between since (x ∷ xs) none are = (
    between ++ are.0,
    are.1,
    ap (λ es. between ++ es) are.2 ∙ sym (append_assoc between are.0 are.1),
    told_wider before between x.0 x.1 are.0 none are.3,
    subst (λ es. AreTold start k es are.1 xs) (append_assoc before between are.0) are.4,
  )

  -- and more exchanges after those
  pub told_then : (before since more : List Entry) (xs ys : List Exchange) → AreTold start k before since xs → AreTold start k (before ++ since) more ys → AreTold start k before (since ++ more) (xs ++ ys)
  told_then before since more [] ys are too = told_after_others before since more ys are too
  told_then before since more (x ∷ xs) ys are too = (
    are.0,
    are.1 ++ more,
    ap (λ es. es ++ more) are.2 ∙ append_assoc are.0 are.1 more,
    are.3,
    told_then (before ++ are.0) are.1 more xs ys are.4 (subst (λ es. AreTold start k es more ys) (ap (λ es. before ++ es) are.2 ∙ sym (append_assoc before are.0 are.1)) too),
  )

-- what a monitor answers
gets_entry : (k : ℕ) (old new : Journal) (r : Request) (e : Entry) → Appends old k r e new → Gets k old (Submit r) (told.Entry e) new
gets_entry k old new r e did = record { since = e ∷ []; grew = did.appended; mine = (did.made, tt); told = ([], refl, refl, did.made, did.asked) }

gets_look : (k : ℕ) (old : Journal) (u v : ℕ) (x : Mode) (held : Bool) → held ≡ set.contains (fold old.start old.entries).accesses (u, v, x) → Gets k old (Check u v x) (told.Held held) old
gets_look k old u v x held is =
    let still : old.entries ≡ old.entries ++ [] = sym (append-nil old.entries) in
    record { since = []; grew = ap (λ es. journal old.start old.forgotten es) still; mine = tt; told = (refl, is ∙ ap (λ es. set.contains (fold old.start es).accesses (u, v, x)) still) }

-- the same, kept behind others
pub keeps_entry : (k : ℕ) (old new : Journal) (r : Request) (e : Entry) (before after : List Told) → Appends old k r e new → after ≡ before ++ told.Entry e ∷ [] → GetsMore k old (Submit r) before after new
keeps_entry k old new r e before after did kept = record { answer = told.Entry e; kept = kept; gets = gets_entry k old new r e did }

pub keeps_look : (k : ℕ) (old : Journal) (u v : ℕ) (x : Mode) (held : Bool) (before after : List Told) → held ≡ set.contains (fold old.start old.entries).accesses (u, v, x) → after ≡ before ++ told.Held held ∷ []
    → GetsMore k old (Check u v x) before after old
keeps_look k old u v x held before after is kept = record { answer = told.Held held; kept = kept; gets = gets_look k old u v x held is }

-- and what it answers to asks, one after the other
pub all_get_none : (k : ℕ) (j : Journal) (answers : List Told) → answers ≡ [] → AllGet k j [] answers j
all_get_none k j answers none =
    record { exchanges = []; since = []; asked = refl; answered = none; grew = ap (λ es. journal j.start j.forgotten es) (sym (append-nil j.entries)); mine = tt; told = refl }

pub all_get_more : (k : ℕ) (i j m : Journal) (asks : List Ask) (n : ℕ) (a : Ask) (answers said : List Told) → AllGet k i (take n asks) answers j → n < length asks → a ≡ get_or asks n a → GetsMore k j a answers said m
    → AllGet k i (take (n + 1) asks) said m
all_get_more k i j m asks n a answers said so within here more =
    let is = more.gets in
    let t : Told = more.answer in
    record {
      exchanges = so.exchanges ++ (a, t) ∷ [];
      since = so.since ++ is.since;
      asked = take_more asks n a within ∙ ap (λ b. take n asks ++ b ∷ []) (sym here) ∙ ap (λ xs. xs ++ a ∷ []) so.asked ∙ sym (map-append (λ x. x.0) so.exchanges ((a, t) ∷ []));
      answered = more.kept ∙ ap (λ xs. xs ++ t ∷ []) so.answered ∙ sym (map-append (λ x. x.1) so.exchanges ((a, t) ∷ []));
      grew = is.grew ∙ ap (λ (b : Journal). journal b.start b.forgotten (b.entries ++ is.since)) so.grew ∙ ap (journal i.start i.forgotten) (append_assoc i.entries so.since is.since);
      mine = all-append k so.since is.since so.mine is.mine;
      told = told_more i.start k i.entries so.since so.exchanges a t is.since so.told (subst (λ (b : Journal). IsTold b.start k b.entries a t is.since) so.grew is.told);
    }
