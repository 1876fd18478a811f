-- What a session has seen of the journal it doesn't lose.
use Rattle.std.proofs.Common.{List, [], ◌∷◌, ◌++◌, length, length-append, ap, arith}
use Rattle.mls_requests.specs.declared.entry.Entry.{Entry}
use Rattle.mls_requests.specs.declared.request.Request.{Request}
use Rattle.mls_sessions.specs.Journals.{Charter}
use Rattle.mls_sessions.specs.declared.gate_table.View.{View}
use Rattle.mls_sessions.specs.Sessions.{Sees, Submits, NoShorter, history}

-- a session that looked
pub seen_since : (c : Charter) (v w : View) → Sees c v w → NoShorter v w
seen_since c v w sees = let p = ap (λ (es : List Entry). length es) sees.begins.1 in let m = length-append (history v) sees.begins.0 in omega arith

-- a session that made an entry
pub made_since : (c : Charter) (v w : View) (r : Request) (e : Entry) → Submits c v r e w → NoShorter v w
made_since c v w r e made = let p = ap (λ (es : List Entry). length es) made.ends in let m = length-append (history v) made.between in
    let k = length-append (history v ++ made.between) (e ∷ []) in omega arith
