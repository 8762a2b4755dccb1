use Rattle.std.proofs.Common.{◌++◌, arith}
use Rattle.std.proofs.lemmas.List.{length-append}
use Rattle.states.specs.Answers.{numbers}
use Rattle.states.proofs.Lists.{same_length, sum_of_append}
use Rattle.listing.specs.Queues.{waiting_in}
use Rattle.listing.proofs.queue.Queue.replace_foremost.Goals as goal

pub insert_any-requires-clause-room : goal.insert_any-requires-clause-room
insert_any-requires-clause-room g c = omega (arith, c.requires.room, c.remove_foremost.ensures.len)

pub insert_any-requires-2-clause-room : goal.insert_any-requires-2-clause-room
insert_any-requires-2-clause-room g c =
    let now = same_length _ _ c.insert_any.ensures.states in
    omega (arith, c.requires.room, c.remove_foremost.ensures.len, now, length-append (numbers c.args.added) (waiting_in c.remove_foremost.new.self))

pub returns-clause-replaced : goal.returns-clause-replaced
returns-clause-replaced g c e foremost f =
    let a = numbers c.args.added in
    let m = numbers c.args.moved in
    let rest = waiting_in c.remove_foremost.new.self in
    let middle = waiting_in c.insert_any.new.self in
    let old = waiting_in c.args.self.now in
    omega (
      arith,
      c.remove_foremost.ensures.removed e foremost f,
      c.insert_any.ensures.states f,
      c.insert_any-2.ensures.states f,
      sum_of_append f a rest,
      sum_of_append f m middle,
      sum_of_append f m old,
      sum_of_append f a (m ++ old),
    )
