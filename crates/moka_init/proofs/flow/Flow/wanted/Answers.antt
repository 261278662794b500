-- What the flow wants is what its point wants.
use Rattle.moka_init.proofs.AtPoint.{all_copies, copies, wants}
use Rattle.moka_init.proofs.flow.Flow.wanted.Goals as goal

pub returns-in-Looking-clause-want : goal.returns-in-Looking-clause-want
returns-in-Looking-clause-want g c = wants c.args.self.now _ c.in-Looking.is _ c.want_looking.ensures.want

pub returns-in-Looking-clause-err : goal.returns-in-Looking-clause-err
returns-in-Looking-clause-err g c = copies c.args.self.now _ c.in-Looking.is _ c.want_looking.ensures.err

pub returns-in-Loading-clause-want : goal.returns-in-Loading-clause-want
returns-in-Loading-clause-want g c = wants c.args.self.now _ c.in-Loading.is _ c.want_loading.ensures.want

pub returns-in-Loading-clause-err : goal.returns-in-Loading-clause-err
returns-in-Loading-clause-err g c = copies c.args.self.now _ c.in-Loading.is _ c.want_loading.ensures.err

pub returns-in-Computing-clause-want : goal.returns-in-Computing-clause-want
returns-in-Computing-clause-want g c = wants c.args.self.now _ c.in-Computing.is _ c.want_computing.ensures.want

pub returns-in-Computing-clause-err : goal.returns-in-Computing-clause-err
returns-in-Computing-clause-err g c = copies c.args.self.now _ c.in-Computing.is _ c.want_computing.ensures.err

pub returns-in-Writing-clause-want : goal.returns-in-Writing-clause-want
returns-in-Writing-clause-want g c = wants c.args.self.now _ c.in-Writing.is _ c.want_writing.ensures.want

pub returns-in-Writing-clause-err : goal.returns-in-Writing-clause-err
returns-in-Writing-clause-err g c = copies c.args.self.now _ c.in-Writing.is _ c.want_writing.ensures.err

pub returns-in-Removing-clause-want : goal.returns-in-Removing-clause-want
returns-in-Removing-clause-want g c = wants c.args.self.now _ c.in-Removing.is _ c.want_removing.ensures.want

pub returns-in-Removing-clause-err : goal.returns-in-Removing-clause-err
returns-in-Removing-clause-err g c = copies c.args.self.now _ c.in-Removing.is _ c.want_removing.ensures.err

pub returns-in-Listening-clause-want : goal.returns-in-Listening-clause-want
returns-in-Listening-clause-want g c = wants c.args.self.now _ c.in-Listening.is _ c.want_listening.ensures.want

pub returns-in-Listening-clause-err : goal.returns-in-Listening-clause-err
returns-in-Listening-clause-err g c = copies c.args.self.now _ c.in-Listening.is _ c.want_listening.ensures.err

pub returns-in-Walking-clause-want : goal.returns-in-Walking-clause-want
returns-in-Walking-clause-want g c = wants c.args.self.now _ c.in-Walking.is _ c.want_walking.ensures.want

pub returns-in-Walking-clause-err : goal.returns-in-Walking-clause-err
returns-in-Walking-clause-err g c = copies c.args.self.now _ c.in-Walking.is _ c.want_walking.ensures.err

pub returns-in-Maintaining-clause-want : goal.returns-in-Maintaining-clause-want
returns-in-Maintaining-clause-want g c = wants c.args.self.now _ c.in-Maintaining.is _ c.want_maintaining.ensures.want

pub returns-in-Maintaining-clause-err : goal.returns-in-Maintaining-clause-err
returns-in-Maintaining-clause-err g c = all_copies c.args.self.now _ c.in-Maintaining.is _ c.want_maintaining.ensures.err
