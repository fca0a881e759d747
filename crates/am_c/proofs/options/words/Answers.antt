-- The words are the parts between blanks.
use Rattle.std.proofs.Common.{lit<}
use Rattle.std.proofs.lemmas.Iterator.Consumers.{map_from_collect}
use Rattle.std.proofs.lemmas.Iterator.Splits.{YieldsList-from_str_split}
use Rattle.am_c.proofs.options.words.Goals as goal

pub returns : goal.returns
returns c =
    let cuts = YieldsList-from_str_split 32 c.args.text.now (lit< tt) c.split.ensures.text c.split.ensures.has_more c.split.ensures.pattern in
    map_from_collect _ c.collect.ensures.ran cuts
