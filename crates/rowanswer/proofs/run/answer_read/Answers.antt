-- `rowanswer::run::answer_read` meets its contract: what the reader took is answered, and what it refused is refusal
-- 8. Assumes nothing.
use Rattle.rowinput.specs.Input.{ReadsInput}
use Rattle.rowanswer.proofs.Reading.{start_within, start_long, keys_few, read_shows, refused_shows}
use Rattle.rowanswer.proofs.run.answer_read.Goals as goal

pub slice_bounds-answer_table-end : goal.slice_bounds-answer_table-end
unfolding ReadsInput
slice_bounds-answer_table-end c =
    let H = c.in-Ok.ensures in start_within c.in-Ok.input.keys H.ks c.args.keys.now c.read_input.new.keys H.key_count H.keys_hold

pub slice_bounds-answer_table-end-in-Ok : goal.slice_bounds-answer_table-end-in-Ok
unfolding ReadsInput
slice_bounds-answer_table-end-in-Ok c =
    let H = c.in-Ok.ensures in start_long c.in-Ok.input.keys H.ks c.args.keys.now c.read_input.new.keys H.key_count H.keys_hold

pub slice_bounds-answer_table-end-in-Ok-2 : goal.slice_bounds-answer_table-end-in-Ok-2
unfolding ReadsInput
slice_bounds-answer_table-end-in-Ok-2 c =
    let H = c.in-Ok.ensures in start_within c.in-Ok.input.asks H.qs c.args.asks.now c.read_input.new.asks H.ask_count H.asks_hold

pub slice_bounds-answer_table-end-in-Ok-3 : goal.slice_bounds-answer_table-end-in-Ok-3
unfolding ReadsInput
slice_bounds-answer_table-end-in-Ok-3 c =
    let H = c.in-Ok.ensures in start_long c.in-Ok.input.asks H.qs c.args.asks.now c.read_input.new.asks H.ask_count H.asks_hold

pub answer_table-requires : goal.answer_table-requires
unfolding ReadsInput
answer_table-requires c = keys_few c.in-Ok.ensures

pub returns-in-Ok : goal.returns-in-Ok
unfolding ReadsInput
returns-in-Ok c = read_shows c.in-Ok.ensures c.answer_table.ensures

pub returns-in-Err : goal.returns-in-Err
returns-in-Err c = refused_shows _ _ _ _ _ _ c.in-Err.ensures c.requires.0 c.requires.1 c.refuse.ensures
