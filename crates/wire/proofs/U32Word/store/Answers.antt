use mathlib.Core.Path.{ap, ◌∙◌}
use Rattle.wire.specs.Codec.{bytes_from, put_fields}
use Rattle.wire.proofs.WordLaws.{word_stored}
use Rattle.wire.proofs.U32Word.store.Goals as goal

pub returns : goal.returns
returns c =
    let a = c.args in
    c.put_bytes.ensures ∙ ap (put_fields (bytes_from 4 0) a.s.now a.at) c.to_le_bytes.ensures ∙ word_stored 4 a.s.now a.at a.self
