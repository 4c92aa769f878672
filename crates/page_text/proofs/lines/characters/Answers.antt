-- The bytes are the word's, which are text.
use Rattle.std.proofs.Common.{subst, sym, arith}
use Rattle.std.specs.Str.{IsUtf8}
use Rattle.page_text.proofs.Texts.{word_utf8}
use Rattle.page_text.proofs.lines.characters.Goals as goal

pub unwrap-requires : goal.unwrap-requires
unwrap-requires c =
    let text = subst IsUtf8 (sym c.bytes.ensures) (word_utf8 c.args.word.now) in
    grind (arith, c.from_utf8.ensures.cases, text)
