-- The columns that the links are taken apart into, x, become y; the cover's links, no more than 1,024, are put together.
use Rattle.std.proofs.Common.{◌≤◌, ℕ, List, [], ◌∷◌, length, map, arith}
use Rattle.std.proofs.lemmas.List.{length-take-le}
use mathlib.Core.Path.{sym}
use Rattle.columns.specs.Refusal.{Verdict}
use Rattle.columns.specs.Answers.{label_columns}
use Rattle.columns.specs.Reading.{Labels}
use Rattle.cover.specs.Chains as chains
use Rattle.cover.specs.Cover.{Cover}
use Rattle.cover.specs.Answers.{range_columns}
use Rattle.cover_links.specs.Links.{meant}
use Rattle.ffi_links.proofs.Four.{quad, Long, zeros, even}
use Rattle.ffi_links_build.specs.Covers.{build_lent}
use Rattle.ffi_links_build.proofs.Covering.{links-over, build-room}
use Rattle.ffi_links_build.proofs.Whole.{done-few, done-answered}
use Rattle.ffi_links_build.proofs.ridgeoven_links_build.Goals as goal

-- the build, over any links
abbrev build : Labels → List ℕ → List chains.Link → Verdict Cover
build l rooms ls = build_lent l ls rooms

pub slice_bounds-a-end : goal.slice_bounds-a-end
slice_bounds-a-end c =
    let rooms = length c.args.ids.now ∷ length c.args.minima.now ∷ length c.args.maxima.now ∷ length c.args.out.now ∷ [] in
    let x = quad c.ridgeoven_links_apart.new.a c.ridgeoven_links_apart.new.b c.ridgeoven_links_apart.new.c c.ridgeoven_links_apart.new.d in
    let y = quad c.build_taken-covered.new.a c.build_taken-covered.new.b c.build_taken-covered.new.c c.build_taken-covered.new.d in
    let o = range_columns c.args.ids.now c.args.minima.now c.args.maxima.now in
    let p = range_columns c.build_taken-covered.new.ids c.build_taken-covered.new.minima c.build_taken-covered.new.maxima in
    let long : Long 1024 y = (omega arith, (omega arith, (omega arith, omega arith))) in
    let few : c.build_taken-covered.result.links ≤ 1024 =
    done-few (build (label_columns c.args.chains.now c.args.seqs.now) rooms) c.args.links.now x o c.build_taken-covered.result y p c.build_taken-covered.ensures long
    in
    omega (arith, few, long.0)

pub slice_bounds-ridgeoven_links_together-end : goal.slice_bounds-ridgeoven_links_together-end
slice_bounds-ridgeoven_links_together-end c =
    let rooms = length c.args.ids.now ∷ length c.args.minima.now ∷ length c.args.maxima.now ∷ length c.args.out.now ∷ [] in
    let x = quad c.ridgeoven_links_apart.new.a c.ridgeoven_links_apart.new.b c.ridgeoven_links_apart.new.c c.ridgeoven_links_apart.new.d in
    let y = quad c.build_taken-covered.new.a c.build_taken-covered.new.b c.build_taken-covered.new.c c.build_taken-covered.new.d in
    let o = range_columns c.args.ids.now c.args.minima.now c.args.maxima.now in
    let p = range_columns c.build_taken-covered.new.ids c.build_taken-covered.new.minima c.build_taken-covered.new.maxima in
    let long : Long 1024 y = (omega arith, (omega arith, (omega arith, omega arith))) in
    let few : c.build_taken-covered.result.links ≤ 1024 =
    done-few (build (label_columns c.args.chains.now c.args.seqs.now) rooms) c.args.links.now x o c.build_taken-covered.result y p c.build_taken-covered.ensures long
    in
    sym (length-take-le c.build_taken-covered.result.links c.build_taken-covered.new.a (omega (arith, few, long.0)))

pub returns : goal.returns
returns c =
    let ys = c.args.links.now in
    let os = c.args.out.now in
    let l = label_columns c.args.chains.now c.args.seqs.now in
    let i = length c.args.ids.now in
    let m = length c.args.minima.now in
    let g = length c.args.maxima.now in
    let x = quad c.ridgeoven_links_apart.new.a c.ridgeoven_links_apart.new.b c.ridgeoven_links_apart.new.c c.ridgeoven_links_apart.new.d in
    let y = quad c.build_taken-covered.new.a c.build_taken-covered.new.b c.build_taken-covered.new.c c.build_taken-covered.new.d in
    let o = range_columns c.args.ids.now c.args.minima.now c.args.maxima.now in
    let p = range_columns c.build_taken-covered.new.ids c.build_taken-covered.new.minima c.build_taken-covered.new.maxima in
    let long : Long 1024 y = (omega arith, (omega arith, (omega arith, omega arith))) in
    done-answered (build l (i ∷ m ∷ g ∷ length os ∷ [])) ys x o c.build_taken-covered.result y p c.build_taken-covered.ensures long (λ ls h. links-over l i m g (length os) ls h)
    c.ridgeoven_links_apart.result zeros even c.ridgeoven_links_apart.ensures c.ridgeoven_links_together.result os c.ridgeoven_links_together.new.links
    (build-room l i m g (length os) (map meant ys)) c.ridgeoven_links_together.ensures
