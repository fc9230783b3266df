use Rattle.columns_refs.proofs.Ruled.{offsets-short, parents-short, children-short, kinds-short, handles-short}
use Rattle.columns_refs.proofs.rules.are_short.Goals as goal

pub returns-then-offsets-lt2049 : goal.returns-then-offsets-lt2049
returns-then-offsets-lt2049 c = search offsets-short

pub returns-then-parents-lt4096 : goal.returns-then-parents-lt4096
returns-then-parents-lt4096 c = search parents-short

pub returns-then-children-lt1024 : goal.returns-then-children-lt1024
returns-then-children-lt1024 c = search children-short

pub returns-then-ukinds-lt1024 : goal.returns-then-ukinds-lt1024
returns-then-ukinds-lt1024 c = search kinds-short

pub returns : goal.returns
returns c = search handles-short
