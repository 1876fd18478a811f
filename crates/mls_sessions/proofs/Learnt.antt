-- What a session learns from one ask.
use Rattle.std.proofs.Common.{◌≡◌, ℕ, Bool, List, [], ◌∷◌, ◌++◌, length, refl, sym, ap, ◌∙◌, arith, append-nil, append_assoc, length-append}
use Rattle.std.proofs.lemmas.List.{append_cancel_left}
use Rattle.std.specs.FinSet as set
use Rattle.mls_tables.specs.declared.mode.Mode.{Mode}
use Rattle.mls_requests.specs.declared.ask.Ask.TheVariants.{Submit, Check}
use Rattle.mls_requests.specs.declared.entry.Entry.{Entry}
use Rattle.mls_requests.specs.declared.request.Request.{Request}
use Rattle.mls_monitor.specs.Journal.{fold}
use Rattle.mls_monitor.specs.Entries.{of_session}
use Rattle.mls_sessions.specs.Rule.{begun, base}
use Rattle.mls_sessions.specs.Sessions.{Office, Session, IsOf, Submits, Sees, history, own, member_of, number_of}
use Rattle.mls_sessions.specs.Feeds.{Learns}
use Rattle.mls_monitor.specs.declared.feed.Answer.TheVariants as told
use Rattle.mls_sessions.proofs.OwnEntries.{own-append, own-same}

snoc_alone : {A : Type 0} (xs : List A) (a : A) → xs ++ a ∷ [] ≡ a ∷ [] → xs ≡ []
snoc_alone [] a same = refl
snoc_alone (x ∷ xs) a same = let l = ap (λ ys. length ys) same in let m = length-append xs (a ∷ []) in absurd (omega arith)

pub history_is : (o : Office) (s : Session) → IsOf o s → history s.view ≡ base o.charter ++ (member_of s.view).later
history_is o s is = ap history is.1

-- of what a session saw more, its own part is what it made
module _ (o : Office) (s t : Session) (s_is : IsOf o s) (t_is : IsOf o t) (same : number_of t.view ≡ number_of s.view) where
  pub later_grew : (since : List Entry) → history t.view ≡ history s.view ++ since → (member_of t.view).later ≡ (member_of s.view).later ++ since
  later_grew since grew =
      append_cancel_left (base o.charter) _ _ (sym (history_is o t t_is) ∙ grew ∙ ap (λ es. es ++ since) (history_is o s s_is) ∙ append_assoc (base o.charter) (member_of s.view).later since)

  own_grew : (since : List Entry) → history t.view ≡ history s.view ++ since → own t.view ≡ own s.view ++ of_session (number_of s.view) since
  own_grew since grew =
      ap (λ k. of_session k (member_of t.view).later) same ∙ ap (of_session (number_of s.view)) (later_grew since grew) ∙ own-append (number_of s.view) (member_of s.view).later since

  -- a check
  pub learns_look : (u v : ℕ) (x : Mode) (held : Bool) → Sees o.charter s.view t.view → held ≡ set.contains (fold (begun o.charter) (history t.view)).accesses (u, v, x)
      → Learns o.charter s.view (Check u v x ∷ []) (told.Held held ∷ []) t.view
  learns_look u v x held sees is =
      let since : List Entry = sees.begins.0 in
      let grew : history t.view ≡ history s.view ++ since = sym sees.begins.1 in
      let none : of_session (number_of s.view) since ≡ [] = append_cancel_left (own s.view) _ [] (sym (own_grew since grew) ∙ sees.same ∙ sym (append-nil (own s.view))) in
      record {
        exchanges = (Check u v x, told.Held held) ∷ [];
        since = since;
        asked = refl;
        answered = refl;
        grew = grew;
        told = (since, [], sym (append-nil since), (none, is ∙ ap (λ es. set.contains (fold (begun o.charter) es).accesses (u, v, x)) grew), refl);
      }

  -- a request
  pub learns_entry : (r : Request) (e : Entry) → Submits o.charter s.view r e t.view → Learns o.charter s.view (Submit r ∷ []) (told.Entry e ∷ []) t.view
  learns_entry r e made =
      let k : ℕ = number_of s.view in
      let since : List Entry = made.between ++ e ∷ [] in
      let grew : history t.view ≡ history s.view ++ since = made.ends ∙ append_assoc (history s.view) made.between (e ∷ []) in
      let mine : of_session k since ≡ of_session k made.between ++ e ∷ [] = own-append k made.between (e ∷ []) ∙ ap (λ es. of_session k made.between ++ es) (own-same k e made.by) in
      let alone : of_session k made.between ≡ [] =
      snoc_alone _ e (append_cancel_left (own s.view) _ (e ∷ []) (ap (λ es. own s.view ++ es) (sym mine) ∙ sym (own_grew since grew) ∙ made.adds)) in
      record {
        exchanges = (Submit r, told.Entry e) ∷ [];
        since = since;
        asked = refl;
        answered = refl;
        grew = grew;
        told = (since, [], sym (append-nil since), (made.between, refl, alone, made.by, made.asks), refl);
      }
