-- The columns that the links are taken apart into, x, become y; the answer's links, no more than 1,024, are put together.
use Rattle.std.proofs.Common.{◌≤◌, ℕ, List, length, map, arith}
use Rattle.std.proofs.lemmas.List.{length-take-le}
use mathlib.Core.Path.{sym}
use Rattle.columns.specs.Refusal.{Verdict}
use Rattle.cover.specs.Chains as chains
use Rattle.cover_links.specs.Links.{meant}
use Rattle.ffi_links.specs.Records.{chain_lent}
use Rattle.ffi_links.proofs.Four.{quad, Long, zeros, even}
use Rattle.ffi_links.proofs.Asking.{many-asked, ask-room}
use Rattle.ffi_links.proofs.Meaning.{done-few, done-answered}
use Rattle.ffi_links_ask.proofs.ridgeoven_links_from.Goals as goal

-- the question, over any links
abbrev question : List ℕ → ℕ → List chains.Link → Verdict (List chains.Link)
question cs room ls = chain_lent ls cs room

pub slice_bounds-a-end : goal.slice_bounds-a-end
slice_bounds-a-end c =
    let x = quad c.ridgeoven_links_apart.new.a c.ridgeoven_links_apart.new.b c.ridgeoven_links_apart.new.c c.ridgeoven_links_apart.new.d in
    let y = quad c.ask_taken-answer.new.a c.ask_taken-answer.new.b c.ask_taken-answer.new.c c.ask_taken-answer.new.d in
    let long : Long 1024 y = (omega arith, (omega arith, (omega arith, omega arith))) in
    let few : c.ask_taken-answer.result.length ≤ 1024 = done-few (question c.args.chains.now (length c.args.out.now)) c.args.links.now x c.ask_taken-answer.result y c.ask_taken-answer.ensures long in
    omega (arith, few, long.0)

pub slice_bounds-ridgeoven_links_together-end : goal.slice_bounds-ridgeoven_links_together-end
slice_bounds-ridgeoven_links_together-end c =
    let x = quad c.ridgeoven_links_apart.new.a c.ridgeoven_links_apart.new.b c.ridgeoven_links_apart.new.c c.ridgeoven_links_apart.new.d in
    let y = quad c.ask_taken-answer.new.a c.ask_taken-answer.new.b c.ask_taken-answer.new.c c.ask_taken-answer.new.d in
    let long : Long 1024 y = (omega arith, (omega arith, (omega arith, omega arith))) in
    let few : c.ask_taken-answer.result.length ≤ 1024 = done-few (question c.args.chains.now (length c.args.out.now)) c.args.links.now x c.ask_taken-answer.result y c.ask_taken-answer.ensures long in
    sym (length-take-le c.ask_taken-answer.result.length c.ask_taken-answer.new.a (omega (arith, few, long.0)))

pub returns : goal.returns
returns c =
    let ys = c.args.links.now in
    let os = c.args.out.now in
    let cs = c.args.chains.now in
    let x = quad c.ridgeoven_links_apart.new.a c.ridgeoven_links_apart.new.b c.ridgeoven_links_apart.new.c c.ridgeoven_links_apart.new.d in
    let y = quad c.ask_taken-answer.new.a c.ask_taken-answer.new.b c.ask_taken-answer.new.c c.ask_taken-answer.new.d in
    let long : Long 1024 y = (omega arith, (omega arith, (omega arith, omega arith))) in
    done-answered (question cs (length os)) ys (λ ls h. many-asked ls cs (length os) h) c.ridgeoven_links_apart.result zeros x even c.ridgeoven_links_apart.ensures
    c.ask_taken-answer.result y c.ask_taken-answer.ensures long c.ridgeoven_links_together.result os c.ridgeoven_links_together.new.links (ask-room (map meant ys) cs (length os))
    c.ridgeoven_links_together.ensures
