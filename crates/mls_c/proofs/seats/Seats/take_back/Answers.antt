use Rattle.std.proofs.Common.{◌≤◌, arith, rules}
use Rattle.std.specs.Prelude.{vec_capacity}
use Rattle.std.specs.Arc.{arc_value}
use Rattle.mls_sessions.specs.Sessions.{IsOf, number_of}
use Rattle.mls_c.specs.Offices.{NumbersBelow}
use Rattle.mls_c.proofs.Offices.{has_room}
use Rattle.mls_c.proofs.seats.Seats.take_back.Goals as goal

pub push_reserved-requires : goal.push_reserved-requires
push_reserved-requires c =
    let home = c.self.inside.home in let s = c.args.place.value.session in let o = arc_value c.self.inside.office in
    let above : NumbersBelow (number_of s.view) home.items = search (rules, c.requires.above) in
    let of : IsOf o s = search rules in
    let room : o.charter.count ≤ vec_capacity home = search rules in
    let lt = has_room o (vec_capacity home) home.items s c.self.invariant.0 above of room in
    let many = home.ok.0 in omega arith
