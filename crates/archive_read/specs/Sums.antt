-- Document 01, 42 and 43: the sums over an archive's files, and how the reader adds up file by file.
use Rattle.std.specs.Prelude.{List, ℕ, ◌+◌, ◌≤◌, length, Err, Ok, Result}
use Rattle.std.proofs.Math.Option.{Option, none, some}
use Rattle.lists.specs.Lists.{sum}
use Rattle.columns.specs.declared.refusal.Refusal.{Refusal}
use Rattle.columns.specs.declared.refusal.Refusal.TheVariants.{RecordBroken}
use Rattle.archive.specs.Reader.{Parsed, broken, got}
use Rattle.archive.specs.File.{CoverColumns, File}
use Rattle.archive_read.specs.declared.records.FileAt.{FileAt}
use Rattle.archive_read.specs.declared.files.Totals.{Totals}

abbrev pub ranges_in : Option CoverColumns → ℕ
ranges_in none = 0
ranges_in (some c) = length c.ranges

abbrev pub links_in : Option CoverColumns → ℕ
links_in none = 0
links_in (some c) = length c.links.from_chains

unfoldable pub totals : List File → Totals
totals fs = record {
  files = length fs;
  events = sum (λ f. length f.rows) fs;
  roots = sum (λ f. length f.roots) fs;
  unresolved = sum (λ f. length f.unresolved) fs;
  ranges = sum (λ f. ranges_in f.cover) fs;
  links = sum (λ f. links_in f.cover) fs;
  forward = sum (λ f. length f.forward.deltas) fs;
  reverse = sum (λ f. length f.reverse.deltas) fs;
  inbound = sum (λ f. length f.inbound.deltas) fs;
  references = sum (λ f. sum length f.references) fs;
}

-- what an archive's bytes come to: 23, or the sums over its files
unfoldable pub totals_of : Parsed (List File) → Result Totals Refusal
totals_of broken = Err RecordBroken
totals_of (got fs p) = Ok (totals fs)

-- the sums with one file more, by the counts that the reader found
unfoldable pub with_file : Totals → FileAt → Totals
with_file t f = record {
  files = t.files + 1;
  events = t.events + f.front.head.rows;
  roots = t.roots + f.tail.count;
  unresolved = t.unresolved + f.middle.count;
  ranges = t.ranges + f.tail.cover.ranges;
  links = t.links + f.tail.cover.links;
  forward = t.forward + f.front.edges.forwards;
  reverse = t.reverse + f.front.edges.reverses;
  inbound = t.inbound + f.front.edges.inbounds;
  references = t.references + f.tail.references;
}

-- no sum is above p
abbrev pub Below : Totals → ℕ → Type 0
Below t p =
    (t.files ≤ p) × (t.events ≤ p) × (t.roots ≤ p) × (t.unresolved ≤ p) × (t.ranges ≤ p) × (t.links ≤ p)
    × (t.forward ≤ p) × (t.reverse ≤ p) × (t.inbound ≤ p) × (t.references ≤ p)

unfoldable pub plus : Totals → Result Totals Refusal → Result Totals Refusal
plus t (Err r) = Err r
plus t (Ok u) = Ok (record {
  files = t.files + u.files;
  events = t.events + u.events;
  roots = t.roots + u.roots;
  unresolved = t.unresolved + u.unresolved;
  ranges = t.ranges + u.ranges;
  links = t.links + u.links;
  forward = t.forward + u.forward;
  reverse = t.reverse + u.reverse;
  inbound = t.inbound + u.inbound;
  references = t.references + u.references;
})
