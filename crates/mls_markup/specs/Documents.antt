-- What stands before and behind the elements of a page.
use Rattle.std.specs.Prelude.{ℕ, List, ◌++◌}
use Rattle.mls_markup.specs.Escaping.{escaped}
use Rattle.mls_markup.specs.declared.style.TheConstants.{TOP, STYLE, BOTTOM}

-- The top of a page of a title: what nothing from outside is in, but for the title, which is escaped. (own)
abbrev pub top_text : List ℕ → List ℕ
top_text title = TOP.now ++ escaped title ++ STYLE.now

-- What ends a page. (own)
abbrev pub bottom_text : List ℕ
bottom_text = BOTTOM.now
