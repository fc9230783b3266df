-- The columns that the links are taken apart into, x, become y; the answer's links, no more than 1,024, are put together.
use Rattle.std.proofs.Common.{◌≤◌, map, arith}
use Rattle.std.proofs.lemmas.List.{length-map, length-take-le}
use mathlib.Core.Path.{sym}
use Rattle.cover_links.specs.Links.{meant}
use Rattle.ffi_links.specs.Records.{sort_lent}
use Rattle.ffi_links.proofs.Four.{quad, Long, zeros, even}
use Rattle.ffi_links.proofs.Sorting.{many-sorts, sort-room}
use Rattle.ffi_links.proofs.Meaning.{done-few, done-answered}
use Rattle.ffi_links.proofs.ridgeoven_links_sort.Goals as goal

pub slice_bounds-a-end : goal.slice_bounds-a-end
slice_bounds-a-end c =
    let x = quad c.ridgeoven_links_apart.new.a c.ridgeoven_links_apart.new.b c.ridgeoven_links_apart.new.c c.ridgeoven_links_apart.new.d in
    let y = quad c.sort_taken-answer.new.a c.sort_taken-answer.new.b c.sort_taken-answer.new.c c.sort_taken-answer.new.d in
    let long : Long 1024 y = (omega arith, (omega arith, (omega arith, omega arith))) in
    let few : c.sort_taken-answer.result.length ≤ 1024 = done-few sort_lent c.args.links.now x c.sort_taken-answer.result y c.sort_taken-answer.ensures long in
    omega (arith, few, long.0)

pub slice_bounds-ridgeoven_links_together-end : goal.slice_bounds-ridgeoven_links_together-end
slice_bounds-ridgeoven_links_together-end c =
    let x = quad c.ridgeoven_links_apart.new.a c.ridgeoven_links_apart.new.b c.ridgeoven_links_apart.new.c c.ridgeoven_links_apart.new.d in
    let y = quad c.sort_taken-answer.new.a c.sort_taken-answer.new.b c.sort_taken-answer.new.c c.sort_taken-answer.new.d in
    let long : Long 1024 y = (omega arith, (omega arith, (omega arith, omega arith))) in
    let few : c.sort_taken-answer.result.length ≤ 1024 = done-few sort_lent c.args.links.now x c.sort_taken-answer.result y c.sort_taken-answer.ensures long in
    sym (length-take-le c.sort_taken-answer.result.length c.sort_taken-answer.new.a (omega (arith, few, long.0)))

pub returns : goal.returns
returns c =
    let ys = c.args.links.now in
    let x = quad c.ridgeoven_links_apart.new.a c.ridgeoven_links_apart.new.b c.ridgeoven_links_apart.new.c c.ridgeoven_links_apart.new.d in
    let y = quad c.sort_taken-answer.new.a c.sort_taken-answer.new.b c.sort_taken-answer.new.c c.sort_taken-answer.new.d in
    let long : Long 1024 y = (omega arith, (omega arith, (omega arith, omega arith))) in
    done-answered sort_lent ys many-sorts c.ridgeoven_links_apart.result zeros x even c.ridgeoven_links_apart.ensures c.sort_taken-answer.result y c.sort_taken-answer.ensures
    long c.ridgeoven_links_together.result ys c.ridgeoven_links_together.new.links (λ _. omega (arith, sort-room (map meant ys), length-map ys meant)) c.ridgeoven_links_together.ensures
