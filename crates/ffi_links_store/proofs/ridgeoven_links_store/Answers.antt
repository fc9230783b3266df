-- The links are taken apart into columns of 1,024 numbers, and these are stored: the verdict over the columns is that over the links.
use Rattle.std.proofs.Common.{◌≡◌, [], ◌∷◌, length, map, arith}
use Rattle.std.proofs.lemmas.List.{length-map}
use mathlib.Core.Path.{◌∙◌, ap}
use Rattle.cover.specs.Answers.{link_columns, counted, columns_after}
use Rattle.cover_links.specs.Links.{meant}
use Rattle.ffi_cover.specs.Numbers.{records_of}
use Rattle.ffi_links.specs.Records.{store_lent, first_links, given}
use Rattle.ffi_links.proofs.Four.{quad, zeros, even}
use Rattle.ffi_links.proofs.Asking.{many-stored}
use Rattle.ffi_links.proofs.Meaning.{columns, taken-links, given-all}
use Rattle.ffi_links_store.proofs.ridgeoven_links_store.Goals as goal

pub returns : goal.returns
returns c =
    let ys = c.args.links.now in
    let rooms = length c.args.a.now ∷ length c.args.b.now ∷ length c.args.c.now ∷ length c.args.d.now ∷ [] in
    let x = quad c.ridgeoven_links_apart.new.a c.ridgeoven_links_apart.new.b c.ridgeoven_links_apart.new.c c.ridgeoven_links_apart.new.d in
    let same : given (length ys) (store_lent (first_links (length ys) (columns x)) rooms) ≡ store_lent (map meant ys) rooms =
    given-all (λ ls. store_lent ls rooms) (length ys) (first_links (length ys) (columns x)) (map meant ys)
    (λ h. taken-links ys zeros x c.ridgeoven_links_apart.result even c.ridgeoven_links_apart.ensures h)
    (λ h. many-stored (map meant ys) rooms (omega (arith, h, length-map ys meant)))
    in (
      c.store_taken.ensures.0 ∙ ap (λ v. records_of (counted (λ k. k.from_chains) v)) same,
      c.store_taken.ensures.1 ∙ ap (λ v. columns_after v (link_columns c.args.a.now c.args.b.now c.args.c.now c.args.d.now)) same,
    )
