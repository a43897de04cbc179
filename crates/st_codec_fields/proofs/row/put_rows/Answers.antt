use Rattle.st_codec_fields.proofs.row.put_rows.Goals as goal

pub put-requires : goal.put-requires
put-requires g c = rw (c.row-item.is, c.as_slice-row-items.ensures) (c.requires.each c.loop-row.row-index _ (rw (← c.as_slice-row-items.ensures) c.loop-row-test.true))
