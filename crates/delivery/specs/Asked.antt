-- The request that a work request is, in the rules' words. Assumes nothing.
use Rattle.tables.specs.Records.{Request}
use Rattle.delivery.specs.Run.{request_by}
use Rattle.delivery.specs.declared.request.WorkRequest.{WorkRequest}

abbrev pub asked : WorkRequest → Request
asked r = request_by r.head r.sges.now r.inline.now
