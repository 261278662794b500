-- What the flow needs of the desk is what its point needs.
use Rattle.moka_init.proofs.AtPoint.{claims, needs, may_need}
use Rattle.moka_init.proofs.flow.Flow.need.Goals as goal

pub returns-in-Posting-clause-ok : goal.returns-in-Posting-clause-ok
returns-in-Posting-clause-ok g c = needs c.args.self.now _ c.in-Posting.is _ c.posting_need.ensures

pub returns-in-Listening-clause-ok : goal.returns-in-Listening-clause-ok
returns-in-Listening-clause-ok g c = needs c.args.self.now _ c.in-Listening.is _ c.listening_need.ensures

pub returns-in-Looking-clause-ok : goal.returns-in-Looking-clause-ok
returns-in-Looking-clause-ok g c = needs c.args.self.now _ c.in-Looking.is _ c.looking_need.ensures

pub returns-in-Writing-clause-ok : goal.returns-in-Writing-clause-ok
returns-in-Writing-clause-ok g c = needs c.args.self.now _ c.in-Writing.is _ c.writing_need.ensures

pub returns-in-Removing-clause-ok : goal.returns-in-Removing-clause-ok
returns-in-Removing-clause-ok g c = needs c.args.self.now _ c.in-Removing.is _ c.removing_need.ensures

pub returns-in-Walking-clause-ok : goal.returns-in-Walking-clause-ok
returns-in-Walking-clause-ok g c = needs c.args.self.now _ c.in-Walking.is _ c.walking_need.ensures

pub returns-in-Loading-clause-ok : goal.returns-in-Loading-clause-ok
returns-in-Loading-clause-ok g c = may_need c.args.self.now _ c.in-Loading.is _ c.loading_need.ensures.ok

pub returns-in-Loading-clause-err : goal.returns-in-Loading-clause-err
returns-in-Loading-clause-err g c = claims c.args.self.now _ c.in-Loading.is _ c.loading_need.ensures.err

pub returns-in-Computing-clause-ok : goal.returns-in-Computing-clause-ok
returns-in-Computing-clause-ok g c = may_need c.args.self.now _ c.in-Computing.is _ c.computing_need.ensures.ok

pub returns-in-Computing-clause-err : goal.returns-in-Computing-clause-err
returns-in-Computing-clause-err g c = claims c.args.self.now _ c.in-Computing.is _ c.computing_need.ensures.err

pub returns-in-Maintaining-clause-ok : goal.returns-in-Maintaining-clause-ok
returns-in-Maintaining-clause-ok g c = needs c.args.self.now _ c.in-Maintaining.is _ c.maintaining_need.ensures
