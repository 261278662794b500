use Rattle.moka_buckets.proofs.bucket_table.as_table.BucketTableTable.step.Goals as goal

pub returns-clause-moves : goal.returns-clause-moves
returns-clause-moves g c = c.step_any.ensures.steps.moves

pub returns-clause-peak : goal.returns-clause-peak
returns-clause-peak g c = c.step_any.ensures.steps.peak

pub returns-clause-first : goal.returns-clause-first
returns-clause-first g c = c.step_any.ensures.steps.first

pub returns-clause-parts : goal.returns-clause-parts
returns-clause-parts g c = c.step_any.ensures.steps.parts

pub returns-clause-lists : goal.returns-clause-lists
returns-clause-lists g c = c.step_any.ensures.steps.lists

pub returns-clause-gives : goal.returns-clause-gives
returns-clause-gives g c = c.step_any.ensures.steps.gives

pub returns-clause-undecided : goal.returns-clause-undecided
returns-clause-undecided g c = c.step_any.ensures.steps.undecided

pub returns-clause-nears : goal.returns-clause-nears
returns-clause-nears g c = c.step_any.ensures.steps.nears

pub returns-clause-others : goal.returns-clause-others
returns-clause-others g c = c.step_any.ensures.steps.others

pub returns-clause-others_left : goal.returns-clause-others_left
returns-clause-others_left g c = c.step_any.ensures.steps.others_left

pub returns-clause-others_listed : goal.returns-clause-others_listed
returns-clause-others_listed g c = c.step_any.ensures.steps.others_listed

pub returns-clause-others_cover : goal.returns-clause-others_cover
returns-clause-others_cover g c = c.step_any.ensures.steps.others_cover

pub returns-clause-err_map : goal.returns-clause-err_map
returns-clause-err_map g c = c.step_any.ensures.steps.err_map

pub returns-clause-err_count : goal.returns-clause-err_count
returns-clause-err_count g c = c.step_any.ensures.steps.err_count

pub returns-clause-err_call : goal.returns-clause-err_call
returns-clause-err_call g c = c.step_any.ensures.steps.err_call

pub returns-clause-err_listed : goal.returns-clause-err_listed
returns-clause-err_listed g c = c.step_any.ensures.steps.err_listed

pub returns-clause-err_others : goal.returns-clause-err_others
returns-clause-err_others g c = c.step_any.ensures.steps.err_others
