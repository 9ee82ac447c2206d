use Rattle.text.specs.Text.{header, line, question_word, code_word, best_word, verdict_word, short_word, bits_word, least_word}
use Rattle.text.proofs.Writer.put_header.Goals as goal

pub put_bytes-requires : goal.put_bytes-requires
unfolding header line question_word code_word best_word verdict_word short_word bits_word least_word
put_bytes-requires c = c.requires

pub returns : goal.returns
unfolding header line question_word code_word best_word verdict_word short_word bits_word least_word
returns c = c.put_bytes.ensures
