use Rattle.std.proofs.Common.{◌≡◌, ◌++◌, subst, ◌∙◌}
use Rattle.std.specs.List.{flat_map}
use Rattle.mls_rows.specs.Rows.{row_bytes}
use Rattle.mls_differences.specs.Coulds.{could_line, could_members, could_bytes, named_coulds}
use Rattle.mls_differences.specs.Differences.{IsListing}
use Rattle.mls_differences.proofs.could_starts.list_coulds.Goals as goal

pub returns : goal.returns
returns c = λ here there first second.
    let rows = c.deref.ensures.value ∙ c.in_ok-rows.ensures here there first second in
    let told : c.into_bytes.result.items ≡ could_bytes c.args.form c.args.words.0.now c.args.words.1.now c.args.names.0.now (named_coulds here there c.args.names.0.now c.args.names.1.now) =
    c.into_bytes.ensures ∙ c.in_ok-written.ensures.bytes
    ∙ (λ i. c.new.ensures.bytes i
    ++ flat_map (λ row. row_bytes (c.new.ensures.form i) (could_line c.args.words.0.now c.args.words.1.now c.args.names.0.now row) (could_members c.args.names.0.now row)) (rows i)) in
    subst (λ bytes. IsListing bytes c.listing.result) told c.listing.ensures
