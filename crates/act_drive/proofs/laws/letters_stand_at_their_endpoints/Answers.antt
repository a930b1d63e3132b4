use Rattle.act_drive.proofs.Endpoints as endpoints
use Rattle.act_drive.proofs.laws.letters_stand_at_their_endpoints.Goals as goal

pub returns : goal.returns
returns c = endpoints.letters_stand_at_their_endpoints
