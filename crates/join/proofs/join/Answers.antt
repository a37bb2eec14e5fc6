-- `join::join` meets its contract: the first check that refuses, or the joined model. Assumes nothing.
use mathlib.Core.Path.{sym, ◌∙◌}
use native.Mathlib.Omega.{arith}
use Rattle.std.proofs.lemmas.Result.{err_from_is_err_and}
use Rattle.model.proofs.Held.{told-yes, told-refused}
use Rattle.filling.specs.Filling.{lists_lent, room_in}
use Rattle.filling.proofs.Lent.{same-lent}
use Rattle.join.specs.Joining.{given_of}
use Rattle.join.proofs.Verdicts.{both-hold, size-left, may-write}
use Rattle.join.proofs.Answers.{refused-join, accepted-join}
use Rattle.join.proofs.ListsJoined.{join-knee, join-habit}
use Rattle.join.proofs.join.Goals as goal

pub returns-in_err-check_model_into : goal.returns-in_err-check_model_into
returns-in_err-check_model_into c =
    let x = given_of c.args.knee.now in
    let y = given_of c.args.habit.now in
    let l = lists_lent c.args.lists.now in
    let p = err_from_is_err_and c.from_residual.result c.from_residual.ensures.1 in
    let no = join-knee x y (room_in l) _ (told-refused x.modes x.start x.colours x.arcs _ c.in_err-check_model_into.ensures) in
    let (reading, answer, lists) = refused-join x y l _ no in
    rw (p.1, p.2) (record { reading = reading; answer = answer; lists = lists; same_lists = same-lent c.args.lists.now })

pub returns-in_err-check_model_into-2 : goal.returns-in_err-check_model_into-2
returns-in_err-check_model_into-2 c =
    let x = given_of c.args.knee.now in
    let y = given_of c.args.habit.now in
    let l = lists_lent c.args.lists.now in
    let p = err_from_is_err_and c.from_residual-in_err-check_model_into-2.result c.from_residual-in_err-check_model_into-2.ensures.1 in
    let no = join-habit x y (room_in l) _ (told-yes x.modes x.start x.colours x.arcs _ c.in_ok-check_model_into.ensures)
    (told-refused y.modes y.start y.colours y.arcs _ c.in_err-check_model_into-2.ensures) in
    let (reading, answer, lists) = refused-join x y l _ no in
    rw (p.1, p.2) (record { reading = reading; answer = answer; lists = lists; same_lists = same-lent c.args.lists.now })

pub invariant_of-both : goal.invariant_of-both
invariant_of-both c =
    let (knee, habit) = both-hold (given_of c.args.knee.now) (given_of c.args.habit.now) c.check_model_into.new.model c.check_model_into-2.new.model c.in_ok-check_model_into.ensures c.in_ok-check_model_into-2.ensures in
    record { knee_fit = knee; habit_fit = habit }

pub returns-in_err-check_size : goal.returns-in_err-check_size
returns-in_err-check_size c =
    let x = given_of c.args.knee.now in
    let y = given_of c.args.habit.now in
    let l = lists_lent c.args.lists.now in
    let p = err_from_is_err_and c.from_residual-in_err-check_size.result c.from_residual-in_err-check_size.ensures.1 in
    let no = size-left x y c.check_model_into.new.model c.check_model_into-2.new.model c.in_ok-check_model_into.ensures c.in_ok-check_model_into-2.ensures (room_in l)
    ∙ sym (rw c.room-room.ensures at c.in_err-check_size.ensures) in
    let (reading, answer, lists) = refused-join x y l _ no in
    rw (p.1, p.2) (record { reading = reading; answer = answer; lists = lists; same_lists = same-lent c.args.lists.now })

pub write_all-count-requires : goal.write_all-count-requires
write_all-count-requires c =
    may-write (given_of c.args.knee.now) (given_of c.args.habit.now) c.check_model_into.new.model c.check_model_into-2.new.model c.in_ok-check_model_into.ensures c.in_ok-check_model_into-2.ensures c.room-room.result
    (sym c.in_ok-check_size.ensures)

pub numbers-requires-clause-few : goal.numbers-requires-clause-few
numbers-requires-clause-few c =
    let fit = may-write (given_of c.args.knee.now) (given_of c.args.habit.now) c.check_model_into.new.model c.check_model_into-2.new.model c.in_ok-check_model_into.ensures c.in_ok-check_model_into-2.ensures
    c.room-room.result (sym c.in_ok-check_size.ensures) in
    omega (arith, fit.few, c.write_all-count.ensures.all.place)

pub returns : goal.returns
returns c =
    let x = given_of c.args.knee.now in
    let y = given_of c.args.habit.now in
    let l = lists_lent c.args.lists.now in
    let (reading, answer, lists) = accepted-join x y l c.check_model_into.new.model c.check_model_into-2.new.model c.in_ok-check_model_into.ensures c.in_ok-check_model_into-2.ensures
    (sym (rw c.room-room.ensures at c.in_ok-check_size.ensures)) c.numbers.result c.write_all-count.result (lists_lent c.write_all-count.new.lists)
    c.numbers.ensures c.write_all-count.ensures.all in
    record { reading = reading; answer = answer; lists = lists; same_lists = c.write_all-count.ensures.same_lists }
