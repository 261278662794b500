-- The client is closed, if it is open.
use Rattle.moka_gateway.proofs.gateway.Gateway.close_open.Goals as goal

pub drop_requests-requires : goal.drop_requests-requires
drop_requests-requires c = (c.requires.0.upstream, c.requires.1.fetches)
