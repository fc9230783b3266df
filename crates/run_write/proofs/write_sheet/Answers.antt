use Rattle.run_write.proofs.write_sheet.Goals as goal

pub write_laid-requires : goal.write_laid-requires
write_laid-requires c = let pre = c.requires in record { s_value = (pre.0, pre.1.1.0); prepared_by = c.prepare-p.ensures }
