use Rattle.moka_desk_cases.proofs.notices.a_desk_without_a_history_opens_a_notice_without_its_pair.Goals as goal

pub is_heard_without_pair-heard-requires : goal.is_heard_without_pair-heard-requires
is_heard_without_pair-heard-requires g c = c.in_ok-desk.ensures.kind.1
