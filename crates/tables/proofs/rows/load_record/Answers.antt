-- The place's bytes are the copy: part-copied.
use Rattle.wire.proofs.PartsLaws.{part_copied}
use Rattle.tables.specs.Layout.{record_p}
use Rattle.wire.specs.Parts.{part_place, parts_end}
use borrow.Author.Rules.{rules}
use Rattle.tables.proofs.rows.load_record.Goals as goal

pub returns : goal.returns
unfolding record_p part_place parts_end
returns c =
    let s = c in
    part_copied record_p s.args.state.now s.args.out.now s.args.n (search rules) (search rules) (search rules) c.copy_bytes.ensures
