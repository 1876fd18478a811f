use Rattle.std.proofs.Common.{◌≡◌, ◌++◌, ◌∙◌, ap, false, length, reverse, subst, arith}
use Rattle.mls_markup.specs.Drafts.{Draft}
use Rattle.mls_markup.specs.Pages.{Adds, IsPart}
use Rattle.mls_markup.proofs.Parts.{part_sheet, adds_sheet}
use Rattle.mls_markup.proofs.page.Page.add_sheet.Goals as goal

pub returns : goal.returns
returns c =
    let html = c.self.inside.html.items in
    let tags = c.self.inside.tags.items in
    let sheet = c.sheet.inside.html.items in
    let open_tags = c.sheet.inside.tags.items in
    let new = c.extend_from_slice-done.new.self.items in
    let is : new ≡ html ++ sheet = c.in_ok-done.ensures.items ∙ ap (λ b. html ++ b) c.deref.ensures.value in
    let none : length open_tags ≡ 0 = omega arith in
    let on : IsPart false sheet (reverse open_tags) = subst (λ w. IsPart w sheet (reverse open_tags)) c.if-is_whole.false (c.sheet.invariant c.if-is_torn.false) in
    subst (λ (d : Draft). Adds d (record { bytes = new; tags = reverse tags })) c.self.view_is (adds_sheet html new sheet (reverse tags) open_tags is none on)

pub invariant_of-self-2 : goal.invariant_of-self-2
invariant_of-self-2 c = λ h.
    let html = c.self.inside.html.items in
    let tags = c.self.inside.tags.items in
    let sheet = c.sheet.inside.html.items in
    let open_tags = c.sheet.inside.tags.items in
    let new = c.extend_from_slice-done.new.self.items in
    let is : new ≡ html ++ sheet = c.in_ok-done.ensures.items ∙ ap (λ b. html ++ b) c.deref.ensures.value in
    let none : length open_tags ≡ 0 = omega arith in
    let on : IsPart false sheet (reverse open_tags) = subst (λ w. IsPart w sheet (reverse open_tags)) c.if-is_whole.false (c.sheet.invariant c.if-is_torn.false) in
    part_sheet c.self.inside.is_whole html new sheet (reverse tags) open_tags is none on (c.self.invariant h)
